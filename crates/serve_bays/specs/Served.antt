-- What became of the lines that bays offered for a sink, by the sink's mode.
use Rattle.std.specs.Prelude.{◌≡◌, ◌<◌, ◌+◌, ◌≤◌, ◌^◌, ◌-◌, min, ℕ, List, [], map, length, slice_get, sum_by, Option, Some, None, IfSome, All, true}
use Rattle.any_lane.specs.Lanes.{any_queued, any_tells}
use Rattle.any_lane.specs.declared.lane.AnyLane.{AnyLane}
use Rattle.audit_core.specs.declared.sinks.SinkMode.{SinkMode}
use Rattle.audit_core.specs.declared.sinks.SinkMode.TheVariants.{Off, Batch, Blocking, Strict}
use Rattle.batch_backend.specs.Batches.{WithinLimits}
use Rattle.batch_backend.specs.declared.limits.Limits.{Limits}
use Rattle.front_plants.specs.Fresh.{SinkOpens, SentAll}
use Rattle.front_ports.specs.declared.clock.Clock as clocks
use Rattle.serve_bays.specs.Lanes.{AreAllotted, LanesFor}
use Rattle.queue_drain.specs.Drains.{EndsTimed, RanDrain}
use Rattle.queue_drain.specs.Turns.{EndsInTime}
use Rattle.queue_drain.specs.declared.drain.QueueDrain.{QueueDrain}
use Rattle.queue_drain.specs.declared.drain_end.DrainEnd.{DrainEnd}
use Rattle.role_threads.specs.Lists.{AllPairs, IfBoth}
use Rattle.shared_queue.specs.Bays.{of_bay}
use Rattle.sink_lanes.specs.Ends.{CanEnd, Ends, own_parts, queued_parts}
use Rattle.sink_lanes.specs.Lanes.{own_lane}
use Rattle.sink_lanes.specs.Together.{SameAny, ToldQueued}
use Rattle.sink_lanes.specs.declared.ending.SinkEnd.{SinkEnd}
use Rattle.truncate_backend.specs.Tries.{Try, IsNoted, lines_of, done_of, faults_in, refusals_in}
use Rattle.truncate_backend.specs.declared.sink.BatchSink as sinks

-- Of a sink in batch mode: these tries were made by its one drainer, and are those of the sink where it tells them. Each is noted with all
-- of its text, unless its port failed. Their lines,
-- joined, have each bay's accepted lines in order, each once, and no line of anybody else. Each bay's lane is one of a queue with these
-- allotments, and was Full only where its own is spent, or where the queue refused a push. The sink counted a fault or a refusal for each
-- try that isn't Done, so that a line stayed unwritten only where it counted one. The drainer counts the lines that were written and those
-- that were not, and how often lanes were Full. Each try but the last one ended for its number, its bytes or its age, and was put in time
pub record IsDrained {S R K : Type 0} (s : sinks.Ghosts S) (k : clocks.Ghosts K) (opens : SinkOpens) (bays capacity : ℕ) (allots : List ℕ) (limits : Limits)
    (lanes : List (AnyLane S R)) (end : SinkEnd S K) : Type 0 where
  pub allotted : AreAllotted opens.allots bays allots
  pub drain : DrainEnd S K
  pub drain_is : end.drain ≡ Some drain
  pub tries : List Try
  pub told : IfSome (s.tells drain.sink).tries (λ own. own ≡ tries)
  pub count : length lanes ≡ bays
  pub queued : (bay : ℕ) → IfSome (slice_get lanes bay) (λ lane. any_queued lane ≡ true)
  pub accepted : (bay : ℕ) → IfSome (slice_get lanes bay) (ToldQueued s capacity allots bay (of_bay bay (lines_of tries)))
  pub others : (bay : ℕ) → bays ≤ bay → of_bay bay (lines_of tries) ≡ []
  pub within : All (λ (t : Try). WithinLimits limits t.lines) tries
  pub noted : All (IsNoted opens.text) tries
  pub unwritten : ℕ
  pub each : length (done_of tries) + unwritten ≡ length (lines_of tries)
  pub written_is : drain.written ≡ min (length (done_of tries)) (2 ^ 64 - 1)
  pub lost_is : drain.lost ≡ min unwritten (2 ^ 64 - 1)
  pub faults_are : (s.tells drain.sink).faults ≡ min (faults_in tries) (2 ^ 64 - 1)
  pub refusals_are : (s.tells drain.sink).refusals ≡ min (refusals_in tries) (2 ^ 64 - 1)
  pub cause : 0 < unwritten → 0 < (s.tells drain.sink).faults + (s.tells drain.sink).refusals
  pub fulls_are : drain.fulls ≡ min (sum_by (λ (lane : AnyLane S R). (any_tells s lane).fulls) lanes) (2 ^ 64 - 1)
  pub sent : SentAll opens (s.tells drain.sink)
  pub in_time : EndsInTime limits drain.began drain.ended (k.given drain.clock) tries
  pub timed : EndsTimed k drain

-- of a sink in the modes blocking and strict: each bay's lane is over the bay's own sink
pub record IsOwn {S R K : Type 0} (bays : ℕ) (lanes : List (AnyLane S R)) (end : SinkEnd S K) : Type 0 where
  pub lanes_are : lanes ≡ map own_lane end.own.items
  pub count : length end.own.items ≡ bays
  pub no_drain : end.drain ≡ None

module _ {S R K : Type 0} where
  abbrev pub SinkServed : sinks.Ghosts S → clocks.Ghosts K → SinkOpens → SinkMode → ℕ → ℕ → List ℕ → Limits → List (AnyLane S R) → SinkEnd S K → Type 0
  SinkServed s k opens Off bays capacity allots limits lanes end = end.drain ≡ None
  SinkServed s k opens Batch bays capacity allots limits lanes end = IsDrained s k opens bays capacity allots limits lanes end
  SinkServed s k opens Blocking bays capacity allots limits lanes end = IsOwn bays lanes end
  SinkServed s k opens Strict bays capacity allots limits lanes end = IsOwn bays lanes end

-- lanes that were made for a sink can be taken back, whatever bays offered and the drainer took
abbrev pub CanAllEnd : (S R K : Type 0) → sinks.Ghosts S → clocks.Ghosts K → Type 0
CanAllEnd S R K s k =
    (opens : SinkOpens) (mode : SinkMode) (bays capacity : ℕ) (allots : List ℕ) (limits : Limits) (before after : List (AnyLane S R)) (drain ran : Option (QueueDrain S R K))
    → LanesFor s k opens mode bays capacity allots limits before drain → AllPairs SameAny before after → IfBoth (RanDrain s k) drain ran
    → CanEnd s k (queued_parts after) ran

-- and what is left of them accounts for all that was accepted
abbrev pub AreAllServed : (S R K : Type 0) → sinks.Ghosts S → clocks.Ghosts K → Type 0
AreAllServed S R K s k =
    (opens : SinkOpens) (mode : SinkMode) (bays capacity : ℕ) (allots : List ℕ) (limits : Limits) (before after : List (AnyLane S R)) (drain ran : Option (QueueDrain S R K))
    (end : SinkEnd S K)
    → LanesFor s k opens mode bays capacity allots limits before drain → AllPairs SameAny before after → IfBoth (RanDrain s k) drain ran
    → end.own.items ≡ own_parts after → Ends s k (queued_parts after) ran end.drain
    → SinkServed s k opens mode bays capacity allots limits after end
