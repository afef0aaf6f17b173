use Rattle.std.proofs.Common.{◌≡◌, ◌≤◌, ◌++◌, length}
use Rattle.std.specs.Prelude.{vec_capacity}
use Rattle.sink_lanes.specs.Ends.{queued_parts, own_parts}
use Rattle.sink_lanes.proofs.ending.part_lanes.Given as goal

abbrev pub invariant-loop-lane : goal.invariant-loop-lane
invariant-loop-lane g l = record {
  whole : l.fn.lanes.items ≡ l.yielded ++ l.lane-iterator.rest.items;
  queued : l.queued.items ≡ queued_parts l.yielded;
  own : l.own.items ≡ own_parts l.yielded;
  queued_room : length l.fn.lanes.items ≤ vec_capacity l.queued;
  own_room : length l.fn.lanes.items ≤ vec_capacity l.own;
}
