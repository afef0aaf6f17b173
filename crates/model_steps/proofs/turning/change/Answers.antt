use Rattle.std.proofs.Common.{◌≤◌, length, ap, refl, arith}
use Rattle.model_steps.proofs.TurnLemmas.{idle_step, same_state, turned_any}
use Rattle.model_steps.proofs.turning.change.Goals as goal
use Rattle.model_worlds.specs.Setup.{Setup}
use Rattle.model_worlds.specs.Steps.{changed, in_exchange, step}
use Rattle.model_worlds.specs.declared.step.Step.TheVariants as step_is

pub returns-then-place-as_slice-clause-ok : goal.returns-then-place-as_slice-clause-ok
unfolding step
returns-then-place-as_slice-clause-ok c =
    let past : length c.args.state.now.bays ≤ c.args.bay = omega (arith, ap length c.as_slice.ensures) in
    idle_step c.turns_are_steps.ensures.none c.args.setup.now c.args.state.now c.args.bay (step_is.Change c.args.bay) (λ (s : Setup). in_exchange (changed s)) past (λ keep. refl)

pub returns-clause-ok : goal.returns-clause-ok
unfolding step
returns-clause-ok c =
    turned_any c.turns_are_steps.ensures.taken c.args.setup.now c.args.state.now c.args.bay (step_is.Change c.args.bay) (λ (s : Setup). in_exchange (changed s)) _ _ _ c.change.result c.at_mut-own.ensures.value (λ keep. refl) c.change.ensures.ok

pub returns-clause-err : goal.returns-clause-err
returns-clause-err c =
    same_state c.args.state.now c.args.bay _ _ _ c.change.result c.at_mut-own.ensures.value c.change.ensures.err
