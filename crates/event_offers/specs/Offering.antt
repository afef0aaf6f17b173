-- What an offer of events does to the lanes of a bay (Kubernetes, "Auditing": audit backends).
use Rattle.std.specs.Prelude.{◌≡◌, ℕ, ◌+◌, ◌≤◌, Bool, true, false, if◌then◌else◌, List, [], ◌∷◌, ◌++◌, length, ⊤}
use Rattle.audit_core.specs.Offers.{Due, offers_due}
use Rattle.audit_core.specs.Owed.{omits}
use Rattle.audit_core.specs.declared.offers.OfferNote.{OfferNote}
use Rattle.audit_core.specs.declared.offers.Outcome.{Outcome}
use Rattle.audit_core.specs.declared.offers.Outcome.TheVariants as outcome
use Rattle.audit_core.specs.declared.settings.Settings.{Settings}
use Rattle.audit_core.specs.declared.sinks.Sink.{Sink}
use Rattle.audit_core.specs.declared.sinks.Sink.TheVariants.{Log, Webhook}
use Rattle.event_offers.specs.Lanes.{LaneState, LanesState}
use Rattle.front_base.specs.Info.{is_long_running}
use Rattle.front_base.specs.Line.{Line}
use Rattle.front_base.specs.declared.level.Level.{Level}
use Rattle.front_base.specs.declared.level.Level.TheVariants as level
use Rattle.front_base.specs.declared.line.TheConstants.{MOST_LINE_BYTES}
use Rattle.front_base.specs.declared.stage.Stage.{Stage}
use Rattle.front_base.specs.declared.stage.Stage.TheVariants as stage
use Rattle.policy_rules.specs.declared.decision.Decision.{Decision}
use Rattle.stage_event.specs.Events.{event}
use Rattle.stage_event.specs.declared.event.Event.{Event}
use Rattle.stage_event.specs.declared.facts.Facts.{Facts}
use Rattle.truncate_backend.specs.Lanes.{Offered}
use Rattle.truncate_backend.specs.declared.fitted.Fit.{Fit}
use Rattle.truncate_backend.specs.declared.fitted.Fit.TheVariants as fit
use Rattle.truncate_backend.specs.declared.lane.Offer.{Offer}
use Rattle.truncate_backend.specs.declared.lane.Offer.TheVariants as answer

-- ---- one line

-- a line has the number of its bay, and how many lines the bay offered to the lane before
abbrev pub next_line : ℕ → LaneState → List ℕ → Line
next_line bay m bytes = record { bay = bay; number = m.lines; bytes = bytes }

abbrev pub outcome_of : Offer → Outcome
outcome_of answer.Taken = outcome.Taken
outcome_of (answer.Full line) = outcome.Full
outcome_of (answer.Failed line) = outcome.Failed

-- a line was offered to a lane, which answered so
pub record OffersLine (bay : ℕ) (bytes : List ℕ) (m : LaneState) (own : Outcome) (n : LaneState) : Type 0 where
  pub answer : Offer
  pub offered : Offered m.tells (next_line bay m bytes) m.queued answer n.tells
  pub outcome_is : own ≡ outcome_of answer
  pub after : n ≡ record m { tells = n.tells; lines = m.lines + 1 }

-- what is written of an event was offered to a lane; where nothing is, the lane was left alone
abbrev pub OffersFit : ℕ → Fit → LaneState → Outcome → LaneState → Type 0
OffersFit bay (fit.Whole bytes) m own n = OffersLine bay bytes m own n
OffersFit bay (fit.Stripped bytes) m own n = OffersLine bay bytes m own n
OffersFit bay (fit.TooLarge size) m own n = (own ≡ outcome.TooLarge size) × (n ≡ m)

-- it was offered to the lane of that sink, and the other lane was left alone
abbrev pub OffersTo : Sink → Fit → LanesState → Outcome → LanesState → Type 0
OffersTo Log written m own n = OffersFit m.bay written m.log own n.log × (n ≡ record m { log = n.log })
OffersTo Webhook written m own n = OffersFit m.bay written m.hook own n.hook × (n ≡ record m { hook = n.hook })

-- ---- many

abbrev pub note_of : Due → Outcome → OfferNote
note_of due own = record { sink = due.sink; stage = due.stage; outcome = own }

-- all that is due was offered, one after another, and what became of each was noted
abbrev pub OffersAll : List Due → LanesState → List OfferNote → LanesState → Type 0
OffersAll [] m notes n = (notes ≡ []) × (n ≡ m)
OffersAll (due ∷ dues) m notes n =
    (own : Outcome) × (rest : List OfferNote) × (middle : LanesState)
    × OffersTo due.sink due.fit m own middle × (notes ≡ note_of due own ∷ rest) × OffersAll dues middle rest n

-- ---- the events of a stage

-- the event of a stage, unless the stage is left out or nothing is recorded
abbrev pub event_unless : Bool → Event → List Event
event_unless true own = []
event_unless false own = own ∷ []

abbrev pub events_by : Level → Bool → Event → List Event
events_by level.None omitted own = []
events_by level.Metadata omitted own = event_unless omitted own
events_by level.Request omitted own = event_unless omitted own
events_by level.RequestResponse omitted own = event_unless omitted own

abbrev pub stage_events : Decision → Facts → Stage → List Event
stage_events d facts own = events_by d.level (omits d.omit own) (event own d.level facts)

-- those of the stage that only long-running requests have
abbrev pub started_events : Decision → Facts → List Event
started_events d facts = if is_long_running facts.info then stage_events d facts stage.ResponseStarted else []

-- ---- what a call does

-- what is due was offered, and what became of it is noted after the notes that were there
pub record Noted (dues : List Due) (m : LanesState) (old : List OfferNote) (n : LanesState) (new : List OfferNote) : Type 0 where
  pub more : List OfferNote
  pub offered : OffersAll dues m more n
  pub new_is : new ≡ old ++ more

-- what is written of an event is a line that may be offered
abbrev pub IsShort : Fit → Type 0
IsShort (fit.Whole bytes) = length bytes ≤ MOST_LINE_BYTES
IsShort (fit.Stripped bytes) = length bytes ≤ MOST_LINE_BYTES
IsShort (fit.TooLarge size) = ⊤

-- one event was offered to one sink, and what became of it is noted
pub record NotedOne (sink : Sink) (own : Stage) (written : Fit) (m : LanesState) (old : List OfferNote) (n : LanesState)
    (new : List OfferNote) : Type 0 where
  pub became : Outcome
  pub offered : OffersTo sink written m became n
  pub new_is : new ≡ old ++ record { sink = sink; stage = own; outcome = became } ∷ []

-- nothing was offered or noted
abbrev pub Unoffered : LanesState → List OfferNote → LanesState → List OfferNote → Type 0
Unoffered m old n new = (n ≡ m) × (new ≡ old)
