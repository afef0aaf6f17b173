-- What code that takes steps leaves and answers, by the definition of steps.
use Rattle.std.specs.Prelude.{◌≡◌, ℕ, Bool, List, Option, Some, None}
use Rattle.audit_core.specs.declared.offers.Outcome.{Outcome}
use Rattle.audit_core.specs.declared.sinks.Sink.{Sink}
use Rattle.model_sinks.specs.Fixed.{Fixed, Keeps, setup_of}
use Rattle.stage_event.specs.declared.facts.Kept.{Kept}
use Rattle.model_worlds.specs.Steps.{Drained, Pushed, Turn, step, with_sink}
use Rattle.model_worlds.specs.declared.state.Bay.{Bay}
use Rattle.model_worlds.specs.declared.state.Shared.{Shared}
use Rattle.model_worlds.specs.declared.state.SinkState.{SinkState}
use Rattle.model_worlds.specs.declared.state.State.{State}
use Rattle.model_worlds.specs.declared.step.Step.{Step}
use Rattle.model_worlds.specs.declared.step.StepAnswer.{StepAnswer}
use Rattle.model_worlds.specs.declared.step.StepAnswer.TheVariants.{Idle}

-- ---- a step of the whole

-- a step at a state leaves that state and answers so
abbrev pub StepsTo : Fixed → State → Step → State → StepAnswer → Type 0
StepsTo own s taken t answer =
    (keep : Bool → List ℕ → Kept) → Keeps keep → step (setup_of own keep) s taken ≡ record { state = t; answer = answer }

-- ---- a sink

-- a step of its writer leaves that sink and answers so; one that can't be taken leaves it as it was
abbrev pub DrainsTo : Option Drained → SinkState → SinkState → StepAnswer → Type 0
DrainsTo None old new answer = (new ≡ old) × (answer ≡ Idle)
DrainsTo (Some d) old new answer = (new ≡ d.sink) × (answer ≡ d.answer)

-- an offer leaves that sink, and came to that
abbrev pub PushesTo : Pushed → SinkState → Outcome → Type 0
PushesTo p new own = (new ≡ p.sink) × (own ≡ p.outcome)

-- so it is of one of the sinks, and the other is as it was
abbrev pub PushedTo : Pushed → Sink → Shared → Shared → Outcome → Type 0
PushedTo p sink old new own = (new ≡ with_sink old sink p.sink) × (own ≡ p.outcome)

-- ---- a bay

-- a turn leaves these and answers so; one that can't be taken leaves all as it was
abbrev pub TurnsTo : Option Turn → Shared → Bay → Shared → Bay → StepAnswer → Type 0
TurnsTo None sh b new_sh new_b answer = (new_sh ≡ sh) × (new_b ≡ b) × (answer ≡ Idle)
TurnsTo (Some t) sh b new_sh new_b answer = (new_sh ≡ t.shared) × (new_b ≡ t.bay) × (answer ≡ t.answer)
