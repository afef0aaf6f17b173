use Rattle.std.proofs.Common.{◌≡◌}
use Rattle.shared_queue.specs.Lanes.{lane_bay}
use Rattle.cases_sinks.proofs.queues.offer_all.Given as goal

abbrev pub invariant-loop-number : goal.invariant-loop-number
invariant-loop-number g l = lane_bay l.lane ≡ l.bay
