-- What a whole run tells of its audit lines (Kubernetes, "Auditing": audit backends).
use Rattle.std.specs.Prelude.{◌≡◌, ◌<◌, ◌≤◌, ◌+◌, ◌-◌, ◌^◌, ◌⊎◌, min, ℕ, zero, suc, Bool, List, [], length, sum, get_or, slice_get, Some, IfSome, All}
use Rattle.audit_core.specs.declared.offers.Outcome.{Outcome}
use Rattle.audit_core.specs.declared.settings.Settings.{Settings}
use Rattle.audit_core.specs.declared.sinks.Sink.{Sink}
use Rattle.batch_backend.specs.Batches.{WithinLimits}
use Rattle.connection_laws.specs.Whole.{due_in, offered_in, offers_in, count_of, is_full}
use Rattle.event_offers.specs.Taken.{is_taken, is_tried, lines_for}
use Rattle.front_base.specs.Line.{Line}
use Rattle.front_plants.specs.Fresh.{SinkOpens, SentAll}
use Rattle.serve_bays.specs.Lanes.{AreAllotted}
use Rattle.serve_bays.specs.declared.options.RunOptions.{RunOptions}
use Rattle.queue_drain.specs.Drains.{EndsTimed}
use Rattle.queue_drain.specs.Turns.{EndsInTime}
use Rattle.queue_drain.specs.declared.drain_end.DrainEnd.{DrainEnd}
use Rattle.serve_roles.specs.Doors.{BayHandles}
use Rattle.serve_roles.specs.declared.bay_end.BayEnd.{BayEnd}
use Rattle.session_core.specs.declared.exchange.Exchange.{Exchange}
use Rattle.shared_queue.specs.Bays.{of_bay}
use Rattle.sink_lanes.specs.declared.ending.SinkEnd.{SinkEnd}
use Rattle.truncate_backend.specs.Tries.{Try, IsNoted, IsSingle, lines_of}
use Rattle.truncate_backend.specs.declared.sink.BatchSink as sinks

-- A bay numbered these exchanges, which are those of its diary where that is told. All that their events are due at the sinks was
-- offered, unless memory ran out within a connection
pub record BayTold {R L N W H K Y D C : Type 0} (h : BayHandles R L N W H K Y D C) (set : Settings) (xs : List Exchange) (end : BayEnd R L K Y D) : Type 0 where
  pub noted : IfSome (h.diary.notes end.diary) (λ notes. notes ≡ xs)
  pub number_is : end.number ≡ length xs
  pub whole : end.counts.no_memory ≡ 0 → due_in set xs ≡ offered_in set xs

-- the lines of a bay's offers to a sink that became such, by its exchanges: of what their events are due, as far as it was offered
abbrev pub lines_by : (Outcome → Bool) → Settings → Sink → List Exchange → ℕ → List Line
lines_by keeps set sink xs bay = lines_for keeps sink bay 0 (offered_in set xs) (offers_in xs)

-- ---- a sink in batch mode

-- Of a bay with these exchanges: its lines that were put are the lines of its offers that were taken, in order. An offer was Full only
-- where these are all of the bay's allotment, or the capacity is at most these and the allotments of the other bays together
pub record BatchedLines {R L N W H K Y D C : Type 0} (h : BayHandles R L N W H K Y D C) (set : Settings) (sink : Sink) (capacity : ℕ)
    (allots : List ℕ) (put : List Line) (xs : List Exchange) (bay : ℕ) (end : BayEnd R L K Y D) : Type 0 where
  pub told : BayTold h set xs end
  pub lines : put ≡ lines_by is_taken set sink xs bay
  pub full : 0 < count_of is_full sink (offers_in xs)
      → (length put ≡ get_or allots bay 0) ⊎ (capacity + get_or allots bay 0 ≤ length put + sum allots)

-- how many offers of so many bays to the sink were Full, from this bay on
abbrev pub fulls_from : Sink → (ℕ → List Exchange) → ℕ → ℕ → ℕ
fulls_from sink xs bay zero = 0
fulls_from sink xs bay (suc n) = count_of is_full sink (offers_in (xs bay)) + fulls_from sink xs (suc bay) n

-- The bays of its queue have these allotments, and had these exchanges. Its one drainer made these tries, each within the limits. Their
-- lines, joined, have of each bay what was accepted of it, once and in order, and no line of anybody else. What the sink's port was given
-- are the bytes that the tries sent, and each try sent all of its text, unless its port failed. Each try but the last one ended for its
-- number, its bytes or its age, and was put in time. The drainer counts as many lines that weren't taken as offers of all bays were Full
pub record BatchesTell {R L N W H K Y D C S : Type 0} (h : BayHandles R L N W H K Y D C) (s : sinks.Ghosts S) (opens : SinkOpens) (set : Settings) (sink : Sink)
    (options : RunOptions) (allots : List ℕ) (xs : ℕ → List Exchange) (bays : List (BayEnd R L K Y D)) (end : SinkEnd S K) : Type 0 where
  pub allotted : AreAllotted opens.allots options.bays allots
  pub drain : DrainEnd S K
  pub drain_is : end.drain ≡ Some drain
  pub tries : List Try
  pub told : IfSome (s.tells drain.sink).tries (λ own. own ≡ tries)
  pub within : All (λ (t : Try). WithinLimits options.limits t.lines) tries
  pub noted : All (IsNoted opens.text) tries
  pub each : (bay : ℕ) → IfSome (slice_get bays bay)
      (BatchedLines h set sink options.buffer allots (of_bay bay (lines_of tries)) (xs bay) bay)
  pub others : (bay : ℕ) → options.bays ≤ bay → of_bay bay (lines_of tries) ≡ []
  pub sent : SentAll opens (s.tells drain.sink)
  pub in_time : EndsInTime options.limits drain.began drain.ended (h.clock.given drain.clock) tries
  pub fulls_are : drain.fulls ≡ min (fulls_from sink xs 0 options.bays) (2 ^ 64 - 1)
  pub timed : EndsTimed h.clock drain

-- the same with these tries
pub record BatchesAre {R L N W H K Y D C S : Type 0} (h : BayHandles R L N W H K Y D C) (s : sinks.Ghosts S) (opens : SinkOpens) (set : Settings) (sink : Sink)
    (options : RunOptions) (allots : List ℕ) (xs : ℕ → List Exchange) (bays : List (BayEnd R L K Y D)) (end : SinkEnd S K) (tries : List Try) : Type 0 where
  pub told : BatchesTell h s opens set sink options allots xs bays end
  pub tries_are : told.tries ≡ tries

-- ---- a sink that is written to at once

-- Of a bay with these exchanges: the tries of its own sink have one line each of its offers that were taken or failed, in order; and what
-- its port was given are the bytes that these tries sent, each of them its whole line, unless the port failed
pub record TriedLines {R L N W H K Y D C S : Type 0} (h : BayHandles R L N W H K Y D C) (s : sinks.Ghosts S) (opens : SinkOpens) (set : Settings) (sink : Sink)
    (own : List S) (xs : List Exchange) (bay : ℕ) (end : BayEnd R L K Y D) : Type 0 where
  pub told : BayTold h set xs end
  pub to : S
  pub to_is : slice_get own bay ≡ Some to
  pub lines : IfSome (s.tells to).tries (λ tries. lines_of tries ≡ lines_by is_tried set sink xs bay)
  pub single : IfSome (s.tells to).tries (All IsSingle)
  pub sent : SentAll opens (s.tells to)

abbrev pub TriesTell : {R L N W H K Y D C S : Type 0} → BayHandles R L N W H K Y D C → sinks.Ghosts S → SinkOpens → Settings → Sink
    → (ℕ → List Exchange) → List (BayEnd R L K Y D) → SinkEnd S K → Type 0
TriesTell h s opens set sink xs bays end = (bay : ℕ) → IfSome (slice_get bays bay) (TriedLines h s opens set sink end.own.items (xs bay) bay)
