-- Lanes of a queue.
use Rattle.std.specs.Prelude.{◌≡◌, ℕ, List, [], ◌∷◌, IfSome, slice_get}
use Rattle.shared_queue.specs.Lanes.{lane_bay}
use Rattle.shared_queue.specs.Queues.{AreOneQueue}
use Rattle.shared_queue.specs.declared.lane.QueueLane.{QueueLane}
use Rattle.shared_queue.specs.declared.outlet.QueueOutlet.{QueueOutlet}

module _ {R : Type 0} where
  -- a queue of one lane, which has bay 0
  pub record IsOneLane (lane : QueueLane R) (outlet : QueueOutlet R) : Type 0 where
    pub bay : lane_bay lane ≡ 0
    pub whole : AreOneQueue (lane ∷ []) outlet

  -- lanes in the order of their bays
  abbrev pub AreInOrder : List (QueueLane R) → Type 0
  AreInOrder lanes = (bay : ℕ) → IfSome (slice_get lanes bay) (λ lane. lane_bay lane ≡ bay)
