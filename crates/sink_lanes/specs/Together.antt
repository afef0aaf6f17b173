-- What stays of lanes that were made together.
use Rattle.std.specs.Prelude.{◌≡◌, ◌<◌, ◌≤◌, ◌+◌, ◌-◌, ◌^◌, ◌⊎◌, min, ℕ, List, [], length, map, sum, get_or, slice_get, Option, Some, IfSome}
use Rattle.any_lane.specs.Lanes.{any_tells, any_bay, any_home, any_queued}
use Rattle.any_lane.specs.declared.lane.AnyLane.{AnyLane}
use Rattle.any_lane.specs.declared.lane.AnyLane.TheVariants.{Queue}
use Rattle.batch_backend.specs.declared.limits.Limits.{Limits}
use Rattle.front_ports.specs.declared.clock.Clock as clocks
use Rattle.queue_drain.specs.Drains.{RanDrain, drain_state}
use Rattle.queue_drain.specs.declared.drain.QueueDrain.{QueueDrain}
use Rattle.role_threads.specs.Lists.{AllPairs, IfBoth}
use Rattle.shared_queue.specs.Bays.{of_bay}
use Rattle.shared_queue.specs.Lanes.{lane_accepted, lane_beyond, lane_refused}
use Rattle.shared_queue.specs.declared.lane.QueueLane.{QueueLane}
use Rattle.sink_lanes.specs.Ends.{CanEnd, queued_parts}
use Rattle.sink_lanes.specs.Lanes.{AreQueued}
use Rattle.front_base.specs.Line.{Line}
use Rattle.truncate_backend.specs.Tries.{SinkTells, KeepsSent}
use Rattle.truncate_backend.specs.declared.sink.BatchSink as sinks

-- what no offer changes of a lane
pub record SameAny {S R : Type 0} (m n : AnyLane S R) : Type 0 where
  pub bay : any_bay n ≡ any_bay m
  pub home : any_home n ≡ any_home m
  pub queued : any_queued n ≡ any_queued m

-- The lane of a bay accepted these lines. It is one of a queue, and was Full once for each offer after its allotment was spent, and once
-- for each push that its queue refused. After the former these lines are all of its allotment; after the latter the capacity is at most these
-- and the allotments of the other bays together
pub record ToldQueued {S R : Type 0} (s : sinks.Ghosts S) (capacity : ℕ) (allots : List ℕ) (bay : ℕ) (accepted : List Line) (lane : AnyLane S R)
    : Type 0 where
  pub accepted_is : (any_tells s lane).accepted ≡ Some accepted
  pub own : QueueLane R
  pub lane_is : lane ≡ Queue own
  pub fulls_are : (any_tells s lane).fulls ≡ min (lane_beyond own + lane_refused own) (2 ^ 64 - 1)
  pub beyond : 0 < lane_beyond own → length accepted ≡ get_or allots bay 0
  pub refused : 0 < lane_refused own → capacity + get_or allots bay 0 ≤ length accepted + sum allots
  pub full : 0 < (any_tells s lane).fulls
      → (length accepted ≡ get_or allots bay 0) ⊎ (capacity + get_or allots bay 0 ≤ length accepted + sum allots)

-- lanes and a drainer that were made together make one queue still, each bay's lane at the bay's place
pub record StayTogether {S R K : Type 0} (s : sinks.Ghosts S) (k : clocks.Ghosts K) (capacity : ℕ) (allots : List ℕ) (limits : Limits) (sink : SinkTells)
    (lanes : List (AnyLane S R)) (drain : Option (QueueDrain S R K)) : Type 0 where
  pub can_end : CanEnd s k (queued_parts lanes) drain
  pub limits_are : IfSome drain (λ d. (drain_state s k d).limits ≡ limits)
  pub sent : IfSome drain (λ d. KeepsSent sink (drain_state s k d).sink)
  pub told : (bay : ℕ) → IfSome (slice_get lanes bay)
      (ToldQueued s capacity allots bay (get_or (map lane_accepted (queued_parts lanes)) bay []))

abbrev pub StaysTogether : (S R K : Type 0) → sinks.Ghosts S → clocks.Ghosts K → Type 0
StaysTogether S R K s k =
    (capacity : ℕ) (allots : List ℕ) (limits : Limits) (sink : SinkTells) (before after : List (AnyLane S R)) (drain ran : Option (QueueDrain S R K))
    → AreQueued s k capacity allots limits sink before drain → AllPairs SameAny before after → IfBoth (RanDrain s k) drain ran
    → StayTogether s k capacity allots limits sink after ran
