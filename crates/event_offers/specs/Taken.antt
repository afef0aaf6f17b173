-- The lines of what was offered.
use Rattle.std.specs.Prelude.{ℕ, ◌+◌, ◌&&◌, Bool, true, false, if◌then◌else◌, List, [], ◌∷◌, ◌++◌}
use Rattle.audit_core.specs.Offers.{Due}
use Rattle.audit_core.specs.declared.offers.OfferNote.{OfferNote}
use Rattle.audit_core.specs.declared.offers.Outcome.{Outcome}
use Rattle.audit_core.specs.declared.offers.Outcome.TheVariants.{Taken, Full, Failed, TooLarge}
use Rattle.audit_core.specs.declared.sinks.Sink.{Sink}
use Rattle.audit_core.specs.declared.sinks.Sink.TheVariants.{Log, Webhook}
use Rattle.event_offers.specs.Lanes.{LaneState, LanesState}
use Rattle.front_base.specs.Line.{Line}
use Rattle.truncate_backend.specs.declared.fitted.Fit.{Fit}
use Rattle.truncate_backend.specs.declared.fitted.Fit.TheVariants as fit

abbrev pub is_taken : Outcome → Bool
is_taken Taken = true
is_taken Full = false
is_taken Failed = false
is_taken (TooLarge size) = false

-- it was tried, whether it was written or not
abbrev pub is_tried : Outcome → Bool
is_tried Taken = true
is_tried Full = false
is_tried Failed = true
is_tried (TooLarge size) = false

abbrev pub lane_of : Sink → LanesState → LaneState
lane_of Log m = m.log
lane_of Webhook m = m.hook

abbrev pub is_for : Sink → Sink → Bool
is_for Log Log = true
is_for Log Webhook = false
is_for Webhook Log = false
is_for Webhook Webhook = true

abbrev pub kept_line : Bool → Line → List Line
kept_line true line = line ∷ []
kept_line false line = []

-- the line of what was offered, by what became of it; the bay and how many lines it had offered before are given
abbrev pub line_in : (Outcome → Bool) → ℕ → ℕ → Fit → Outcome → List Line
line_in keeps bay before (fit.Whole bytes) own = kept_line (keeps own) (record { bay = bay; number = before; bytes = bytes })
line_in keeps bay before (fit.Stripped bytes) own = kept_line (keeps own) (record { bay = bay; number = before; bytes = bytes })
line_in keeps bay before (fit.TooLarge size) own = []

-- how many lines are offered of it
abbrev pub count_in : Fit → ℕ
count_in (fit.Whole bytes) = 1
count_in (fit.Stripped bytes) = 1
count_in (fit.TooLarge size) = 0

-- the lines that were offered to a sink and became such, in order, by what was due and what became of it
abbrev pub lines_for : (Outcome → Bool) → Sink → ℕ → ℕ → List Due → List OfferNote → List Line
lines_for keeps sink bay before [] notes = []
lines_for keeps sink bay before (due ∷ dues) [] = []
lines_for keeps sink bay before (due ∷ dues) (note ∷ notes) =
    if is_for sink due.sink
    then line_in keeps bay before due.fit note.outcome ++ lines_for keeps sink bay (before + count_in due.fit) dues notes
    else lines_for keeps sink bay before dues notes
