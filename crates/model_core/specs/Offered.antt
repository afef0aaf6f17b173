-- What the sinks were due and offered by a bay.
use Rattle.std.specs.Prelude.{ℕ, Bool, List, [], ◌++◌, flat_map, is_some, Option, Some, None, if◌then◌else◌, slice_index_or}
use Rattle.audit_core.specs.Offers.{Due, offers_due}
use Rattle.audit_core.specs.Owed.{owed}
use Rattle.audit_core.specs.declared.offers.OfferNote.{OfferNote}
use Rattle.audit_core.specs.declared.offers.Outcome.{Outcome}
use Rattle.audit_core.specs.declared.sinks.Sink.{Sink}
use Rattle.event_offers.specs.Taken.{lines_for}
use Rattle.front_base.specs.Line.{Line}
use Rattle.front_base.specs.declared.level.Level.{Level}
use Rattle.front_base.specs.declared.stage.Stage.TheVariants.{RequestReceived, ResponseStarted, ResponseComplete}
use Rattle.policy_rules.specs.Policy.{first}
use Rattle.stage_event.specs.declared.facts.Facts.{Facts}
use Rattle.model_worlds.specs.Setup.{Setup}
use Rattle.model_worlds.specs.Steps.{due, start_bay}
use Rattle.model_worlds.specs.declared.state.Bay.{Bay}
use Rattle.model_worlds.specs.declared.state.Exchange.{Exchange}
use Rattle.model_worlds.specs.declared.state.Open.{Open}
use Rattle.model_worlds.specs.declared.state.State.{State}

-- ---- by an exchange

-- what all events that it owes are due, by the rule of the policy for its user and what it asks for
abbrev pub dues_of : Setup → Exchange → List Due
dues_of setup x = offers_due setup.set (owed (first setup.set.policy x.facts.user x.facts.info) x.facts)

-- what is due of its arrival, of the start of its reply where that was noted, and of its end where it was answered
abbrev pub dues_at : Setup → Level → Facts → Bool → Bool → List Due
dues_at setup own facts started finished =
    due setup RequestReceived own facts
    ++ ((if started then due setup ResponseStarted own facts else [])
    ++ (if finished then due setup ResponseComplete own facts else []))

-- what is due of an exchange as far as it has come
abbrev pub dues_so_far : Setup → Open → List Due
dues_so_far setup o =
    dues_at setup o.exchange.level o.exchange.facts (is_some o.phase.started) o.phase.finished

-- ---- by a bay: its exchanges that are over, and then the one that isn't

abbrev pub open_dues : Setup → Option Open → List Due
open_dues setup None = []
open_dues setup (Some o) = dues_so_far setup o

abbrev pub dues_by : Setup → Bay → List Due
dues_by setup b = flat_map (dues_of setup) b.closed ++ open_dues setup b.current

abbrev pub open_notes : Option Open → List OfferNote
open_notes None = []
open_notes (Some o) = o.exchange.notes

abbrev pub notes_by : Bay → List OfferNote
notes_by b = flat_map (λ x. x.notes) b.closed ++ open_notes b.current

-- the bay of a number; one that isn't there has done nothing
abbrev pub bay_at : State → ℕ → Bay
bay_at s bay = slice_index_or s.bays bay start_bay

-- the lines of a bay's offers to a sink that became such, in order. Each has the bay's number, and how many offers of the
-- bay to that sink before it weren't too large
abbrev pub lines_to : (Outcome → Bool) → Setup → Sink → State → ℕ → List Line
lines_to keeps setup sink s bay = lines_for keeps sink bay 0 (dues_by setup (bay_at s bay)) (notes_by (bay_at s bay))
