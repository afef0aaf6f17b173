-- The lanes of all bays for one sink, as they are made.
use Rattle.std.specs.Prelude.{◌≡◌, ℕ, List, [], ◌∷◌, map, Option, Some, ⊤}
use Rattle.any_lane.specs.declared.lane.AnyLane.{AnyLane}
use Rattle.any_lane.specs.declared.lane.AnyLane.TheVariants.{Off, Queue, Own}
use Rattle.batch_backend.specs.declared.limits.Limits.{Limits}
use Rattle.front_ports.specs.declared.clock.Clock as clocks
use Rattle.queue_drain.specs.Drains.{Accounts, drain_state}
use Rattle.queue_drain.specs.declared.drain.QueueDrain.{QueueDrain}
use Rattle.shared_queue.specs.Queues.{IsNewQueue, outlet_home}
use Rattle.shared_queue.specs.declared.lane.QueueLane.{QueueLane}
use Rattle.shared_queue.specs.declared.outlet.QueueOutlet.{QueueOutlet}
use Rattle.truncate_backend.specs.Tries.{SinkTells}
use Rattle.truncate_backend.specs.declared.sink.BatchSink as sinks

module _ {S R : Type 0} where
  -- the lane of a sink that is off, to which nothing was offered
  abbrev pub IsOff : AnyLane S R → Type 0
  IsOff (Off failed) = failed ≡ 0
  IsOff (Queue lane) = ⊥
  IsOff (Own lane) = ⊥

  abbrev pub AllOff : List (AnyLane S R) → Type 0
  AllOff [] = ⊤
  AllOff (lane ∷ lanes) = IsOff lane × AllOff lanes

  -- the lane over a sink of the bay's own
  abbrev pub own_lane : S → AnyLane S R
  own_lane sink = Own (record { sink = sink })

  -- the lane of a queue
  abbrev pub queue_lane : QueueLane R → AnyLane S R
  queue_lane lane = Queue lane

-- the lanes of a new queue with this capacity and these allotments, and its drainer, which took nothing yet and has this sink
pub record AreQueued {S R K : Type 0} (s : sinks.Ghosts S) (k : clocks.Ghosts K) (capacity : ℕ) (allots : List ℕ) (limits : Limits) (sink : SinkTells)
    (lanes : List (AnyLane S R)) (drain : Option (QueueDrain S R K)) : Type 0 where
  pub queue : List (QueueLane R)
  pub outlet : QueueOutlet R
  pub drained : QueueDrain S R K
  pub new : IsNewQueue capacity allots queue outlet
  pub lanes_are : lanes ≡ map queue_lane queue
  pub drain_is : drain ≡ Some drained
  pub home : (drain_state s k drained).home ≡ outlet_home outlet
  pub limits_are : (drain_state s k drained).limits ≡ limits
  pub sink_is : (drain_state s k drained).sink ≡ sink
  pub accounts : Accounts (drain_state s k drained)
