use Rattle.std.proofs.Common.{◌≡◌, ◌<◌, ◌≤◌, ◌⊎◌, ◌+◌, ◌-◌, true, length, take}
use Rattle.body_frames.specs.Progress.{is_done, is_open, most_left}
use Rattle.stream_relay.specs.Hand.{HandsOn}
use Rattle.stream_relay.proofs.hand.hand_on.Given as goal

abbrev pub invariant-handing : goal.invariant-handing
invariant-handing g l = record {
  hands : HandsOn l.chunked l.fn.decoder l.decoder (take l.at l.bytes)
      (record { written = g.C.ByteSink.written l.fn.conn; keep = l.fn.keep })
      (record { written = g.C.ByteSink.written l.conn; keep = l.keep });
  within : l.at ≤ length l.bytes;
  some : 0 < length l.bytes → is_open l.fn.decoder ≡ true → 0 < l.at;
  falls : most_left l.decoder + l.at ≤ most_left l.fn.decoder;
  awaits : (is_done l.decoder ≡ true) ⊎ (is_open l.decoder ≡ true);
  later : g.C.ByteSink.write_faults l.fn.conn ≤ g.C.ByteSink.write_faults l.conn;
  calm : g.C.ByteSink.write_faults l.conn ≡ g.C.ByteSink.write_faults l.fn.conn;
  aside : g.C.ByteSink.inward l.conn ≡ g.C.ByteSink.inward l.fn.conn;
}

abbrev pub decreases-handing : goal.decreases-handing
decreases-handing g l = length l.bytes - l.at
