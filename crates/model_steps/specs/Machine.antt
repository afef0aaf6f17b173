-- The machine of steps.
use Rattle.std.specs.Prelude.{◌≡◌, ◌++◌, ℕ, Bool, List}
use Rattle.model_sinks.specs.Fixed.{Fixed, Keeps, setup_of}
use Rattle.stage_event.specs.declared.facts.Kept.{Kept}
use Rattle.model_worlds.specs.Steps.{after_steps, answers_to}
use Rattle.model_worlds.specs.declared.state.State.{State}
use Rattle.model_worlds.specs.declared.step.Step.{Step}
use Rattle.model_worlds.specs.declared.step.StepAnswer.{StepAnswer}

-- what contracts see of it: what stays as it is, and its state
pub record Machine : Type 0 where
  pub fixed : Fixed
  pub state : State

-- steps lead from a state to another, and answer so
abbrev pub RunsTo : Fixed → State → List Step → State → List StepAnswer → Type 0
RunsTo own s steps t answers =
    (keep : Bool → List ℕ → Kept) → Keeps keep
    → (after_steps (setup_of own keep) s steps ≡ t) × (answers_to (setup_of own keep) s steps ≡ answers)

-- some of the steps, from the first on, lead to that state
abbrev pub StopsAt : Fixed → State → List Step → State → Type 0
StopsAt own s steps t =
    (done left : List Step) × (answers : List StepAnswer) × (steps ≡ done ++ left) × RunsTo own s done t answers
