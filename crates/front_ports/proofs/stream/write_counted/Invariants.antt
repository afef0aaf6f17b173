use Rattle.std.proofs.Common.{◌≡◌, ◌≤◌, ◌-◌, length, take}
use Rattle.std.specs.Io.KnownBytes.{Appends}
use Rattle.front_ports.proofs.stream.write_counted.Given as goal

abbrev pub invariant-loop-at : goal.invariant-loop-at
invariant-loop-at g l = record {
  within : l.at ≤ length l.text;
  told : Appends (g.O.ByteSink.written l.fn.out) (g.O.ByteSink.written l.out) (take l.at l.text);
  sound : g.O.ByteSink.write_faults l.out ≡ g.O.ByteSink.write_faults l.fn.out;
  aside : g.O.ByteSink.inward l.out ≡ g.O.ByteSink.inward l.fn.out;
}

abbrev pub decreases-loop-at : goal.decreases-loop-at
decreases-loop-at g l = length l.text - l.at
