-- What a whole run loses nothing of (Kubernetes, "Auditing": audit backends).
use Rattle.std.specs.Prelude.{◌≡◌, ◌<◌, ◌≤◌, ◌+◌, ◌-◌, ◌^◌, min, ℕ, Bool, true, false, if◌then◌else◌, List, [], ◌∷◌, ◌++◌, length, sum, get_or, slice_get, Some, IfSome, All}
use Rattle.std.specs.List.{sum_by}
use Rattle.audit_core.specs.Offers.{Due}
use Rattle.audit_core.specs.declared.offers.OfferNote.{OfferNote}
use Rattle.audit_core.specs.declared.offers.Outcome.TheVariants.{Taken}
use Rattle.audit_core.specs.declared.settings.Settings.{Settings}
use Rattle.audit_core.specs.declared.sinks.Sink.{Sink}
use Rattle.audit_core.specs.declared.sinks.Sink.TheVariants.{Log, Webhook}
use Rattle.bay_runs.specs.declared.bay_stop.BayStop.TheVariants.{Closed}
use Rattle.connection_laws.specs.Whole.{offered_in, offers_in, count_of, is_full}
use Rattle.event_offers.specs.Taken.{is_for, count_in}
use Rattle.front_base.specs.Line.{Line}
use Rattle.serve_bays.specs.declared.options.RunOptions.{RunOptions}
use Rattle.queue_drain.specs.declared.drain_end.DrainEnd.{DrainEnd}
use Rattle.run_laws.specs.Told.{BayTold}
use Rattle.serve_roles.specs.Doors.{BayHandles}
use Rattle.serve_roles.specs.declared.bay_end.BayEnd.{BayEnd}
use Rattle.session_core.specs.declared.exchange.Exchange.{Exchange}
use Rattle.shared_queue.specs.Bays.{of_bay}
use Rattle.sink_lanes.specs.declared.ending.SinkEnd.{SinkEnd}
use Rattle.truncate_backend.specs.Tries.{Try, lines_of, done_of}
use Rattle.truncate_backend.specs.declared.fitted.Fit.{Fit}
use Rattle.truncate_backend.specs.declared.fitted.Fit.TheVariants as fit
use Rattle.truncate_backend.specs.declared.sink.BatchSink as sinks
use Rattle.truncate_backend.specs.declared.tries.TryAnswer.TheVariants.{Done}

-- ---- what there is to write

-- the line of what fits; the bay, and how many lines it had offered before, are given
abbrev pub line_due : ℕ → ℕ → Fit → List Line
line_due bay before (fit.Whole bytes) = record { bay = bay; number = before; bytes = bytes } ∷ []
line_due bay before (fit.Stripped bytes) = record { bay = bay; number = before; bytes = bytes } ∷ []
line_due bay before (fit.TooLarge size) = []

-- the lines of all that is due for a sink, in order and numbered one after another, whatever became of them
abbrev pub lines_due : Sink → ℕ → ℕ → List Due → List Line
lines_due sink bay before [] = []
lines_due sink bay before (due ∷ dues) =
    if is_for sink due.sink
    then line_due bay before due.fit ++ lines_due sink bay (before + count_in due.fit) dues
    else lines_due sink bay before dues

-- the event's line fits, with its objects or without
abbrev pub has_line : Fit → Bool
has_line (fit.Whole bytes) = true
has_line (fit.Stripped bytes) = true
has_line (fit.TooLarge size) = false

-- a line fits of each event that is due for that sink
abbrev pub AllFit : Sink → List Due → Type 0
AllFit sink dues = All (λ (due : Due). is_for sink due.sink ≡ true → has_line due.fit ≡ true) dues

-- each offer to that sink was taken
abbrev pub AllTaken : Sink → List OfferNote → Type 0
AllTaken sink notes = All (λ (note : OfferNote). is_for sink note.sink ≡ true → note.outcome ≡ Taken) notes

-- these lines are all that was due for the sink, and where a line fits of each event, each offer was taken
pub record Kept (sink : Sink) (bay : ℕ) (due : List Due) (notes : List OfferNote) (lines : List Line) : Type 0 where
  pub all : lines ≡ lines_due sink bay 0 due
  pub taken : AllFit sink due → AllTaken sink notes

-- ---- a sink in batch mode

module _ {R L K Y D : Type 0} where
  -- how many lines a bay offered to the sink
  abbrev pub offered_to : Sink → BayEnd R L K Y D → ℕ
  offered_to Log end = end.log_lines
  offered_to Webhook end = end.hook_lines

-- A bay with these exchanges offered as many lines as were due, and each of these was put, or its offer was Full. None was Full where the
-- capacity has room for all allotments and the bay owed no more lines than its own. Where none was Full, all were put
pub record KeepsBatched {R L N W H K Y D C : Type 0} (h : BayHandles R L N W H K Y D C) (set : Settings) (sink : Sink) (capacity : ℕ)
    (allots : List ℕ) (put : List Line) (xs : List Exchange) (bay : ℕ) (end : BayEnd R L K Y D) : Type 0 where
  pub told : BayTold h set xs end
  pub offered : offered_to sink end ≡ length (lines_due sink bay 0 (offered_in set xs))
  pub account : length put + count_of is_full sink (offers_in xs) ≡ length (lines_due sink bay 0 (offered_in set xs))
  pub none_full : sum allots ≤ capacity → length (lines_due sink bay 0 (offered_in set xs)) ≤ get_or allots bay 0
      → count_of is_full sink (offers_in xs) ≡ 0
  pub keeps : count_of is_full sink (offers_in xs) ≡ 0 → Kept sink bay (offered_in set xs) (offers_in xs) put

-- these lines are all that the bay owed the sink for these exchanges
pub record KeptBay {R L N W H K Y D C : Type 0} (h : BayHandles R L N W H K Y D C) (set : Settings) (sink : Sink) (put : List Line)
    (xs : List Exchange) (bay : ℕ) (end : BayEnd R L K Y D) : Type 0 where
  pub told : BayTold h set xs end
  pub kept : Kept sink bay (offered_in set xs) (offers_in xs) put

-- each line of these tries was written, and the drainer's counts say so
pub record AllWritten {S K : Type 0} (drain : DrainEnd S K) (tries : List Try) : Type 0 where
  pub done : done_of tries ≡ lines_of tries
  pub none_lost : drain.lost ≡ 0
  pub written_is : drain.written ≡ min (length (lines_of tries)) (2 ^ 64 - 1)

-- Its one drainer made these tries, which account for each line that a bay owed. Where each try was Done, each of their lines was
-- written, and so where no line was counted as lost, or where the sink counted no fault and no refusal. Where it wrote as many lines as bays offered, each line that a bay owed was written
pub record BatchesKeepAll {R L N W H K Y D C S : Type 0} (h : BayHandles R L N W H K Y D C) (s : sinks.Ghosts S) (set : Settings) (sink : Sink)
    (options : RunOptions) (allots : List ℕ) (xs : ℕ → List Exchange) (bays : List (BayEnd R L K Y D)) (end : SinkEnd S K) : Type 0 where
  pub allotted : length allots ≡ options.bays
  pub drain : DrainEnd S K
  pub drain_is : end.drain ≡ Some drain
  pub tries : List Try
  pub told : IfSome (s.tells drain.sink).tries (λ own. own ≡ tries)
  pub each : (bay : ℕ) → IfSome (slice_get bays bay)
      (KeepsBatched h set sink options.buffer allots (of_bay bay (lines_of tries)) (xs bay) bay)
  pub others : (bay : ℕ) → options.bays ≤ bay → of_bay bay (lines_of tries) ≡ []
  pub done : All (λ (t : Try). t.note.answer ≡ Done) tries → AllWritten drain tries
  pub none_lost : drain.lost ≡ 0 → AllWritten drain tries
  pub no_fault : (s.tells drain.sink).faults ≡ 0 → (s.tells drain.sink).refusals ≡ 0 → AllWritten drain tries
  pub as_many : drain.written ≡ sum_by (offered_to sink) bays → drain.written < 2 ^ 64 - 1
      → AllWritten drain tries
      × ((bay : ℕ) → IfSome (slice_get bays bay) (KeptBay h set sink (of_bay bay (lines_of tries)) (xs bay) bay))

-- ---- a sink that is written to at once

-- Of a bay with these exchanges: where its own sink counted no fault and no refusal, its tries are one line each of all that was due, each written
pub record KeepsOwn {R L N W H K Y D C S : Type 0} (h : BayHandles R L N W H K Y D C) (s : sinks.Ghosts S) (set : Settings) (sink : Sink)
    (own : List S) (xs : List Exchange) (bay : ℕ) (end : BayEnd R L K Y D) : Type 0 where
  pub told : BayTold h set xs end
  pub to : S
  pub to_is : slice_get own bay ≡ Some to
  pub offered : offered_to sink end ≡ length (lines_due sink bay 0 (offered_in set xs))
  pub written : (s.tells to).faults ≡ 0 → (s.tells to).refusals ≡ 0 → IfSome (s.tells to).tries (λ tries.
      (lines_of tries ≡ lines_due sink bay 0 (offered_in set xs)) × (done_of tries ≡ lines_due sink bay 0 (offered_in set xs)))
  pub taken : (s.tells to).faults ≡ 0 → (s.tells to).refusals ≡ 0 → AllFit sink (offered_in set xs) → AllTaken sink (offers_in xs)

abbrev pub TriesKeepAll : {R L N W H K Y D C S : Type 0} → BayHandles R L N W H K Y D C → sinks.Ghosts S → Settings → Sink
    → (ℕ → List Exchange) → List (BayEnd R L K Y D) → SinkEnd S K → Type 0
TriesKeepAll h s set sink xs bays end = (bay : ℕ) → IfSome (slice_get bays bay) (KeepsOwn h s set sink end.own.items (xs bay) bay)

-- ---- how it ended

-- every bay stopped since its door gave no more
abbrev pub AllClosed : {R L K Y D : Type 0} → List (BayEnd R L K Y D) → Type 0
AllClosed {R = R} {L = L} {K = K} {Y = Y} {D = D} bays = All (λ (end : BayEnd R L K Y D). end.stop ≡ Closed) bays
