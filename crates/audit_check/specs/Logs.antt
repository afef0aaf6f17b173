-- What it means that a whole log conforms: each line by itself, and the lines of each request in their order.
use Rattle.std.specs.Prelude.{◌≡◌, ℕ, List, ◌∷◌, ◌++◌}
use Rattle.policy_rules.specs.declared.policy.Policy.{Policy}
use Rattle.stage_event.specs.declared.event.Event.{Event}
use Rattle.audit_check.specs.Agreement.{info_of, IsInPlace, IsDecided, decision_on}
use Rattle.audit_check.specs.Lines.{IsLine, IsNext}

-- the line may stand in a log by this policy: it is that of an event which agrees with its request and with the policy
pub record MayStand (policy : Policy) (text : List ℕ) : Type 0 where
  pub event : Event
  pub line : IsLine event text
  pub in_place : IsInPlace (info_of event) event
  pub decided : IsDecided (decision_on policy (info_of event) event) event

-- each line has a later stage than those lines before it that are of its request
abbrev pub StagesRise : List (List ℕ) → Type 0
StagesRise lines =
    (before after : List (List ℕ)) (text : List ℕ) (e : Event) → lines ≡ before ++ text ∷ after → IsLine e text → IsNext before e.id e.stage
