-- What is left of a sink.
use Rattle.std.specs.Prelude.{List, [], ◌∷◌, Option, Some, None, ⊤}
use Rattle.any_lane.specs.declared.lane.AnyLane.{AnyLane}
use Rattle.any_lane.specs.declared.lane.AnyLane.TheVariants.{Off, Queue, Own}
use Rattle.front_ports.specs.declared.clock.Clock as clocks
use Rattle.queue_drain.specs.Drains.{Accounts, EndsDrain, EndsTimed, drain_outlet, drain_state}
use Rattle.queue_drain.specs.declared.drain.QueueDrain.{QueueDrain}
use Rattle.queue_drain.specs.declared.drain_end.DrainEnd.{DrainEnd}
use Rattle.shared_queue.specs.Queues.{AreOneQueue}
use Rattle.shared_queue.specs.declared.lane.QueueLane.{QueueLane}
use Rattle.truncate_backend.specs.Tries.{KeepsSent}
use Rattle.truncate_backend.specs.declared.sink.BatchSink as sinks

abbrev pub some_first : {A : Type 0} → Option A → List A → List A
some_first None xs = xs
some_first (Some x) xs = x ∷ xs

module _ {S R : Type 0} where
  -- a lane's part of a queue
  abbrev pub queued_part : AnyLane S R → Option (QueueLane R)
  queued_part (Off failed) = None
  queued_part (Queue lane) = Some lane
  queued_part (Own lane) = None

  -- its own sink
  abbrev pub own_part : AnyLane S R → Option S
  own_part (Off failed) = None
  own_part (Queue lane) = None
  own_part (Own lane) = Some lane.sink

  -- of all lanes
  abbrev pub queued_parts : List (AnyLane S R) → List (QueueLane R)
  queued_parts [] = []
  queued_parts (lane ∷ lanes) = some_first (queued_part lane) (queued_parts lanes)

  abbrev pub own_parts : List (AnyLane S R) → List S
  own_parts [] = []
  own_parts (lane ∷ lanes) = some_first (own_part lane) (own_parts lanes)

module _ {S R K : Type 0} where
  -- where there is a drainer, these are all lanes of its queue, and it accounts for what it took
  abbrev pub CanEnd : sinks.Ghosts S → clocks.Ghosts K → List (QueueLane R) → Option (QueueDrain S R K) → Type 0
  CanEnd s k queue None = ⊤
  CanEnd s k queue (Some d) = AreOneQueue queue (drain_outlet d) × Accounts (drain_state s k d)

  -- and then it has put all that they accepted, and its sink sent what its tries say
  abbrev pub Ends : sinks.Ghosts S → clocks.Ghosts K → List (QueueLane R) → Option (QueueDrain S R K) → Option (DrainEnd S K) → Type 0
  Ends s k queue None None = ⊤
  Ends s k queue None (Some e) = ⊥
  Ends s k queue (Some d) None = ⊥
  Ends s k queue (Some d) (Some e) =
      EndsDrain (drain_state s k d).limits queue (s.tells e.sink) e.written e.lost e.fulls e.began e.ended (k.given e.clock)
      × KeepsSent (drain_state s k d).sink (s.tells e.sink) × EndsTimed k e
