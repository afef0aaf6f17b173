-- The events of a request that have no line, since even the line without their objects is too long (the truncating backend
-- of kube-apiserver, `--audit-log-truncate-max-event-size`).
use Rattle.std.specs.Prelude.{◌≡◌, ℕ, ◌+◌, Bool, true, false, not, ◌&&◌, if◌then◌else◌, List, ◌++◌, count_by}
use Rattle.audit_core.specs.Owed.{owed, fitted_lines, ended}
use Rattle.audit_core.specs.declared.answered.Answered.{Answered}
use Rattle.front_base.specs.declared.stage.Stage.{Stage}
use Rattle.front_base.specs.declared.stage.Stage.TheVariants.{RequestReceived, ResponseStarted, ResponseComplete, Panic}
use Rattle.policy_rules.specs.declared.omit.Omit.{Omit}
use Rattle.stage_event.specs.declared.event.Event.{Event}
use Rattle.truncate_backend.specs.Fits.{fitted}
use Rattle.truncate_backend.specs.declared.fitted.Fit.{Fit}
use Rattle.truncate_backend.specs.declared.fitted.Fit.TheVariants.{Whole, Stripped, TooLarge}

abbrev pub is_too_large : Fit → Bool
is_too_large (Whole line) = false
is_too_large (Stripped line) = false
is_too_large (TooLarge size) = true

-- how many of the events have no line where one may have at most so many bytes
abbrev pub too_large : ℕ → List Event → ℕ
too_large max events = count_by (λ own. is_too_large (fitted own max)) events

-- ---- how the code finds them: stage by stage

-- the stages that are left out, and all but this one
abbrev pub only : Omit → Stage → Omit
only omit RequestReceived = record { received = omit.received; started = true; complete = true }
only omit ResponseStarted = record { received = true; started = omit.started; complete = true }
only omit ResponseComplete = record { received = true; started = true; complete = omit.complete }
only omit Panic = record { received = true; started = true; complete = true }

abbrev pub with_omit : Omit → Answered → Answered
with_omit omit x = record x { decision = record x.decision { omit = omit } }

-- the event that is owed at that stage, if one is
abbrev pub owed_only : Omit → Stage → Answered → List Event
owed_only omit stage x = owed (record x.decision { omit = only omit stage }) x.facts

abbrev pub one_if : Bool → ℕ
one_if b = if b then 1 else 0

abbrev pub count_stages : Omit → Bool → ℕ
count_stages omit long = one_if (not omit.received) + one_if (long && not omit.started) + one_if (not omit.complete)

-- the lines of these events are added, each with that byte after it, and so many of the events have none
pub record Pushes (max end : ℕ) (events : List Event) (old new : List ℕ) (n : ℕ) : Type 0 where
  pub lines : new ≡ old ++ ended end (fitted_lines max events)
  pub count : n ≡ too_large max events
