use Rattle.std.proofs.Common.{◌≤◌, length, ap, refl, arith}
use Rattle.model_steps.proofs.TurnLemmas.{idle_step, same_bays, turned_step}
use Rattle.model_steps.proofs.turning.finish.Goals as goal
use Rattle.model_worlds.specs.Setup.{Setup}
use Rattle.model_worlds.specs.Steps.{finished, in_exchange, step}
use Rattle.model_worlds.specs.declared.step.Step.TheVariants as step_is

pub returns-then-place-as_slice-clause-ok : goal.returns-then-place-as_slice-clause-ok
unfolding step
returns-then-place-as_slice-clause-ok c =
    let past : length c.args.state.now.bays ≤ c.args.bay = omega (arith, ap length c.as_slice.ensures) in
    idle_step c.turns_are_steps.ensures.none c.args.setup.now c.args.state.now c.args.bay (step_is.Finish c.args.bay c.args.link c.args.reply c.args.moment) (λ (s : Setup). in_exchange (finished s c.args.link c.args.reply c.args.moment)) past (λ keep. refl)

pub returns-clause-ok : goal.returns-clause-ok
unfolding step
returns-clause-ok c =
    turned_step c.turns_are_steps.ensures.taken c.args.setup.now c.args.state.now c.args.bay (step_is.Finish c.args.bay c.args.link c.args.reply c.args.moment) (λ (s : Setup). in_exchange (finished s c.args.link c.args.reply c.args.moment)) _ _ _ c.finish.result c.at_mut-own.ensures.value (λ keep. refl) c.finish.ensures.ok

pub returns-clause-err : goal.returns-clause-err
returns-clause-err c =
    same_bays c.args.state.now c.args.bay _ _ c.finish.result c.at_mut-own.ensures.value c.finish.ensures.err
