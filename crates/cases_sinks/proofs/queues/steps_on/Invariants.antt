use Rattle.std.proofs.Common.{◌≡◌}
use Rattle.shared_queue.specs.Lanes.{lane_bay}
use Rattle.cases_sinks.proofs.queues.steps_on.Given as goal

abbrev pub invariant-loop-row : goal.invariant-loop-row
invariant-loop-row g l = lane_bay l.lane ≡ 0
