use Rattle.std.proofs.Common.{◌≡◌, length}
use Rattle.sink_lanes.specs.Lanes.{AllOff}
use Rattle.sink_lanes.proofs.making.off_lanes.Given as goal

abbrev pub invariant-loop : goal.invariant-loop
invariant-loop g l = record { off : AllOff l.lanes.items; count : length l.lanes.items ≡ l.counter }
