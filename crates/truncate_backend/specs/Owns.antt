-- What a lane over a sink of its own tells.
use Rattle.std.specs.Prelude.{◌+◌, ◌-◌, ◌^◌, min, Some, option_map}
use Rattle.truncate_backend.specs.Lanes.{LaneTells}
use Rattle.truncate_backend.specs.Tries.{SinkTells, lines_of, done_of}

-- it accepted what the sink wrote, tried what the sink tried, and failed as often as the sink, which it has of its own
abbrev pub own_tells : SinkTells → LaneTells
own_tells s =
    record {
      accepted = option_map done_of s.tries;
      tried = option_map lines_of s.tries;
      fulls = 0;
      faults = min (s.faults + s.refusals) (2 ^ 64 - 1);
      sink = Some s;
    }
