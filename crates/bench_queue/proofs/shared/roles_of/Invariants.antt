use Rattle.std.proofs.Common.{◌≡◌, ◌++◌, length}
use Rattle.bench_queue.proofs.shared.roles_of.Given as goal

abbrev pub invariant-loop-lane : goal.invariant-loop-lane
invariant-loop-lane g l = record {
  whole : l.fn.lanes.items ≡ l.yielded ++ l.lane-iterator.rest.items;
  count : l.bay ≡ length l.yielded;
}
