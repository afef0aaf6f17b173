-- The audit lines that an exchange owes (Kubernetes, "Auditing").
use Rattle.std.specs.Prelude.{◌≡◌, ℕ, Bool, true, not, if◌then◌else◌, List, [], ◌∷◌, ◌++◌, filter, flat_map, map}
use Rattle.front_base.specs.Info.{is_long_running}
use Rattle.front_base.specs.declared.info.Info.{Info}
use Rattle.front_base.specs.declared.level.Level.{Level}
use Rattle.front_base.specs.declared.level.Level.TheVariants as level
use Rattle.front_base.specs.declared.stage.Stage.{Stage}
use Rattle.front_base.specs.declared.stage.Stage.TheVariants.{RequestReceived, ResponseStarted, ResponseComplete, Panic}
use Rattle.policy_rules.specs.declared.decision.Decision.{Decision}
use Rattle.policy_rules.specs.declared.omit.Omit.{Omit}
use Rattle.stage_event.specs.Due.{stages}
use Rattle.stage_event.specs.Events.{event}
use Rattle.stage_event.specs.declared.event.Event.{Event}
use Rattle.stage_event.specs.declared.facts.Facts.{Facts}
use Rattle.truncate_backend.specs.Fits.{fitted}
use Rattle.truncate_backend.specs.declared.fitted.Fit.{Fit}
use Rattle.truncate_backend.specs.declared.fitted.Fit.TheVariants.{Whole, Stripped, TooLarge}

-- the stage is left out
abbrev pub omits : Omit → Stage → Bool
omits omit RequestReceived = omit.received
omits omit ResponseStarted = omit.started
omits omit ResponseComplete = omit.complete
omits omit Panic = true

-- the stages in the life of a request that are not left out, in order
abbrev pub stages_due : Omit → Info → List Stage
stages_due omit info = filter (λ stage. not (omits omit stage)) (stages info)

-- all events that are due
abbrev pub events_at : Level → Omit → Facts → List Event
events_at own omit facts = map (λ stage. event stage own facts) (stages_due omit facts.info)

-- none at level None
abbrev pub owed_at : Level → Omit → Facts → List Event
owed_at level.None omit facts = []
owed_at level.Metadata omit facts = events_at level.Metadata omit facts
owed_at level.Request omit facts = events_at level.Request omit facts
owed_at level.RequestResponse omit facts = events_at level.RequestResponse omit facts

-- the events that a request owes that is recorded so, in the order of stages
abbrev pub owed : Decision → Facts → List Event
owed d facts = owed_at d.level d.omit facts

-- ---- their lines, without line feeds

-- what is written of an event: one line, or none where even the stripped line is too long
abbrev pub lines_in : Fit → List (List ℕ)
lines_in (Whole line) = line ∷ []
lines_in (Stripped line) = line ∷ []
lines_in (TooLarge size) = []

-- the lines of events where one may have at most so many bytes
abbrev pub fitted_lines : ℕ → List Event → List (List ℕ)
fitted_lines max events = flat_map (λ own. lines_in (fitted own max)) events

-- lines one after another, each with that byte after it
abbrev pub ended : ℕ → List (List ℕ) → List ℕ
ended end lines = flat_map (λ line. line ++ end ∷ []) lines

-- ---- what the calls on the way write

-- the text of a stage's line, unless the stage is left out
abbrev pub stage_text : ℕ → ℕ → Level → Omit → Facts → Stage → List ℕ
stage_text max end own omit facts stage =
    if omits omit stage then [] else ended end (lines_in (fitted (event stage own facts) max))

-- the line of a stage that only long-running requests have
abbrev pub started_text : ℕ → ℕ → Level → Omit → Facts → List ℕ
started_text max end own omit facts =
    if is_long_running facts.info then stage_text max end own omit facts ResponseStarted else []

-- something may stand after what was there
abbrev pub Extends : List ℕ → List ℕ → Type 0
Extends old new = (more : List ℕ) × (new ≡ old ++ more)
