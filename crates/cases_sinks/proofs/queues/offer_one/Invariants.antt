use Rattle.std.proofs.Common.{◌≡◌}
use Rattle.shared_queue.specs.Lanes.{lane_bay}
use Rattle.cases_sinks.proofs.queues.offer_one.Given as goal

abbrev pub invariant-loop : goal.invariant-loop
invariant-loop g l = lane_bay l.lane ≡ l.bay
