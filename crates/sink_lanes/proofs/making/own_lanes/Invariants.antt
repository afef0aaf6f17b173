use Rattle.std.proofs.Common.{◌≡◌, map}
use Rattle.sink_lanes.specs.Lanes.{own_lane}
use Rattle.sink_lanes.proofs.making.own_lanes.Given as goal

abbrev pub invariant-loop-sink : goal.invariant-loop-sink
invariant-loop-sink g l = l.lanes.items ≡ map own_lane l.yielded
