use Rattle.std.proofs.Common.{◌≡◌, map}
use Rattle.sink_lanes.specs.Lanes.{queue_lane}
use Rattle.sink_lanes.proofs.making.wrap_lanes.Given as goal

abbrev pub invariant-loop-lane : goal.invariant-loop-lane
invariant-loop-lane g l = l.wrapped.items ≡ map queue_lane l.yielded
