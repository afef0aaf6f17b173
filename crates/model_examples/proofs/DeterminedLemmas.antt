-- What one function says of steps, the contracts of steps say.
use Rattle.std.proofs.Common.{◌≡◌, ℕ, Bool, List, sym, ap, ◌∙◌}
use Rattle.model_steps.specs.Machine.{RunsTo}
use Rattle.model_sinks.specs.Fixed.{Fixed, Keeps}
use Rattle.model_sinks.specs.Running.{StepsTo}
use Rattle.stage_event.specs.declared.facts.Kept.{Kept}
use Rattle.model_worlds.specs.Steps.{Stepped}
use Rattle.model_worlds.specs.declared.state.State.{State}
use Rattle.model_worlds.specs.declared.step.Step.{Step}
use Rattle.model_worlds.specs.declared.step.StepAnswer.{StepAnswer}

pub one_step : (keep : Bool → List ℕ → Kept) → Keeps keep → (own : Fixed) (s t u : State) (taken : Step) (answer other : StepAnswer)
    → StepsTo own s taken t answer → StepsTo own s taken u other → (t ≡ u) × (answer ≡ other)
one_step keep keeps own s t u taken answer other h k =
    let both : ◌≡◌ {A = Stepped} (record { state = t; answer = answer }) (record { state = u; answer = other }) = sym (h keep keeps) ∙ k keep keeps in
    (ap (λ (o : Stepped). o.state) both, ap (λ (o : Stepped). o.answer) both)

pub one_run : (keep : Bool → List ℕ → Kept) → Keeps keep → (own : Fixed) (s t u : State) (steps : List Step) (answers others : List StepAnswer)
    → RunsTo own s steps t answers → RunsTo own s steps u others → (t ≡ u) × (answers ≡ others)
one_run keep keeps own s t u steps answers others h k =
    let these = h keep keeps in
    let those = k keep keeps in
    (sym these.0 ∙ those.0, sym these.1 ∙ those.1)
