-- Which events each sink is due, and what can become of them (Kubernetes, "Auditing": audit backends).
use Rattle.std.specs.Prelude.{◌≡◌, ◌⊎◌, ◌&&◌, Bool, true, false, List, [], ◌∷◌, ◌++◌, map, flat_map, if◌then◌else◌, ⊤}
use Rattle.std.specs.List.{list_any}
use Rattle.front_base.specs.declared.stage.Stage.{Stage}
use Rattle.front_base.specs.declared.stage.Stage.TheVariants as stage
use Rattle.stage_event.specs.declared.event.Event.{Event}
use Rattle.truncate_backend.specs.Fits.{fitted}
use Rattle.truncate_backend.specs.declared.fitted.Fit.{Fit}
use Rattle.truncate_backend.specs.declared.fitted.Fit.TheVariants as fit
use Rattle.audit_core.specs.declared.offers.OfferNote.{OfferNote}
use Rattle.audit_core.specs.declared.offers.Outcome.{Outcome}
use Rattle.audit_core.specs.declared.offers.Outcome.TheVariants.{Taken, Full, Failed, TooLarge}
use Rattle.audit_core.specs.declared.settings.Settings.{Settings}
use Rattle.audit_core.specs.declared.sinks.Sink.{Sink}
use Rattle.audit_core.specs.declared.sinks.Sink.TheVariants.{Log, Webhook}
use Rattle.audit_core.specs.declared.sinks.SinkMode.{SinkMode}
use Rattle.audit_core.specs.declared.sinks.SinkMode.TheVariants.{Off, Batch, Blocking, Strict}

-- ---- sinks

abbrev pub is_on : SinkMode → Bool
is_on Off = false
is_on Batch = true
is_on Blocking = true
is_on Strict = true

abbrev pub is_strict : SinkMode → Bool
is_strict Off = false
is_strict Batch = false
is_strict Blocking = false
is_strict Strict = true

abbrev pub mode_of : Settings → Sink → SinkMode
mode_of set Log = set.log
mode_of set Webhook = set.hook

abbrev pub when_on : Settings → Sink → List Sink
when_on set sink = if is_on (mode_of set sink) then sink ∷ [] else []

-- the log comes before the webhook
abbrev pub sinks_on : Settings → List Sink
sinks_on set = when_on set Log ++ when_on set Webhook

-- ---- what they are due

-- a sink is due an event, of which this is written
pub record Due : Type 0 where
  pub sink : Sink
  pub stage : Stage
  pub fit : Fit

abbrev pub due_at : Settings → Event → Sink → Due
due_at set own sink = record { sink = sink; stage = own.stage; fit = fitted own set.max_event }

-- each event goes to each sink that is on
abbrev pub offers_due : Settings → List Event → List Due
offers_due set events = flat_map (λ own. map (due_at set own) (sinks_on set)) events

-- ---- what becomes of it

-- only a buffer is full, and only a sink that is written to at once fails
abbrev pub CanBe : SinkMode → Outcome → Type 0
CanBe mode Taken = ⊤
CanBe mode Full = mode ≡ Batch
CanBe mode Failed = (mode ≡ Blocking) ⊎ (mode ≡ Strict)
CanBe mode (TooLarge size) = ⊥

-- an event of which nothing is written is not offered
abbrev pub IsOutcome : SinkMode → Fit → Outcome → Type 0
IsOutcome mode (fit.Whole line) outcome = CanBe mode outcome
IsOutcome mode (fit.Stripped line) outcome = CanBe mode outcome
IsOutcome mode (fit.TooLarge size) outcome = outcome ≡ TooLarge size

pub record IsNote (set : Settings) (due : Due) (note : OfferNote) : Type 0 where
  pub sink_is : note.sink ≡ due.sink
  pub stage_is : note.stage ≡ due.stage
  pub outcome_is : IsOutcome (mode_of set due.sink) due.fit note.outcome

-- these became of these, in order
abbrev pub AreNotes : Settings → List Due → List OfferNote → Type 0
AreNotes set [] [] = ⊤
AreNotes set [] (note ∷ notes) = ⊥
AreNotes set (due ∷ dues) [] = ⊥
AreNotes set (due ∷ dues) (note ∷ notes) = IsNote set due note × AreNotes set dues notes

-- ---- a strict sink

abbrev pub is_first : Stage → Bool
is_first stage.RequestReceived = true
is_first stage.ResponseStarted = false
is_first stage.ResponseComplete = false
is_first stage.Panic = false

-- nothing was written: a write failed, or even the line without objects was too long
abbrev pub is_failed : Outcome → Bool
is_failed Taken = false
is_failed Full = false
is_failed Failed = true
is_failed (TooLarge size) = true

abbrev pub refuses : Settings → OfferNote → Bool
refuses set note = is_first note.stage && (is_strict (mode_of set note.sink) && is_failed note.outcome)

-- a strict sink could not write the event of a request's arrival, for which the request is refused
abbrev pub has_refused : Settings → List OfferNote → Bool
has_refused set notes = list_any (refuses set) notes
