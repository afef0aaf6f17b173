use Rattle.std.proofs.Common.{◌∙◌, arith}
use Rattle.std.proofs.lemmas.Grind.{common_steps}
use Rattle.model_steps.proofs.RunLemmas.{runs_more}
use Rattle.model_steps.proofs.running.run_steps.Goals as goal

pub loop-step-preserved : goal.loop-step-preserved
loop-step-preserved c = record {
  whole = grind (arith, common_steps);
  fixed = c.in_ok-run_step.ensures.fixed ∙ c.loop-step.invariant.fixed;
  runs =
      runs_more c.args.core.now.fixed c.loop-step.core.fixed c.args.core.now.state c.loop-step.core.state
      c.run_step.new.core.state c.loop-step.yielded c.loop-step.answers.items c.run_step.new.answers.items c.in-Some.step
      c.loop-step.invariant.fixed c.loop-step.invariant.runs c.in_ok-run_step.ensures.ok;
}
