use Rattle.std.proofs.Common.{◌≡◌, ◌++◌}
use Rattle.model_steps.specs.Machine.{RunsTo}
use Rattle.model_steps.proofs.running.run_steps.Given as goal

-- the steps so far were taken, and the others are left
abbrev pub invariant-loop-step : goal.invariant-loop-step
invariant-loop-step l = record {
  whole : l.fn.steps.items ≡ l.yielded ++ l.step-iterator.rest.items;
  fixed : l.core.fixed ≡ l.fn.core.fixed;
  runs : RunsTo l.fn.core.fixed l.fn.core.state l.yielded l.core.state l.answers.items;
}
