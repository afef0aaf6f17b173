-- What a lane of a queue tells, and what an offer to it does.
use Rattle.std.specs.Prelude.{◌≡◌, ◌≤◌, ◌<◌, ◌+◌, ◌-◌, ◌^◌, ◌⊎◌, min, ℕ, List, [], ◌∷◌, ◌++◌, Some, None, length, get_or, sum}
use Rattle.crossbeam_queue.specs.Fifo.{Held}
use Rattle.crossbeam_queue.specs.Passes.{view}
use Rattle.front_base.specs.Line.{Line}
use Rattle.truncate_backend.specs.Lanes.{LaneTells}
use Rattle.truncate_backend.specs.declared.lane.Offer.{Offer}
use Rattle.truncate_backend.specs.declared.lane.Offer.TheVariants.{Taken, Full, Failed}
use Rattle.truncate_backend.specs.Told.{RisesByOne}
use Rattle.shared_queue.specs.Homes.{home_of}
use Rattle.shared_queue.specs.Rule.{Crowded}
use Rattle.shared_queue.specs.declared.lane.QueueLane.{QueueLane}

module _ {R : Type 0} where
  -- the lines that it accepted, and how many it may accept
  abbrev pub lane_accepted : QueueLane R → List Line
  lane_accepted l = (view l.pass).accepted

  abbrev pub lane_allotment : QueueLane R → ℕ
  lane_allotment l = l.allotment

  -- the capacity of its queue, and the allotments of all lanes of that queue, in the order of their bays
  abbrev pub lane_capacity : QueueLane R → ℕ
  lane_capacity l = l.capacity

  abbrev pub lane_allotments : QueueLane R → List ℕ
  lane_allotments l = (view l.pass).allotments

  -- the bay whose lines it takes, and the queue that it belongs to
  abbrev pub lane_bay : QueueLane R → ℕ
  lane_bay l = l.bay

  abbrev pub lane_home : QueueLane R → List ℕ
  lane_home l = home_of l.pass.table_id (lane_capacity l) (lane_allotments l)

  -- how many offers came after its allotment was spent, and how many of its pushes the queue refused
  abbrev pub lane_beyond : QueueLane R → ℕ
  lane_beyond l = l.beyond

  abbrev pub lane_refused : QueueLane R → ℕ
  lane_refused l = l.refusals.count

  -- how often it answered Full: each time for the one reason or for the other
  abbrev pub lane_fulls : QueueLane R → ℕ
  lane_fulls l = min (lane_beyond l + lane_refused l) (2 ^ 64 - 1)

  abbrev pub lane_tells : QueueLane R → LaneTells
  lane_tells l =
      record { accepted = Some (lane_accepted l); tried = Some (lane_accepted l); fulls = lane_fulls l; faults = 0; sink = None }

  -- what no offer changes
  pub record SameLane (l m : QueueLane R) : Type 0 where
    pub bay : lane_bay m ≡ lane_bay l
    pub home : lane_home m ≡ lane_home l
    pub capacity : lane_capacity m ≡ lane_capacity l
    pub allotments : lane_allotments m ≡ lane_allotments l
    pub allotment : lane_allotment m ≡ lane_allotment l

  -- the lane's accepted lines and the other lanes' allotments are together at least the capacity
  abbrev pub CanBeFull : QueueLane R → Type 0
  CanBeFull l = lane_capacity l + lane_allotment l ≤ length (lane_accepted l) + sum (lane_allotments l)

  -- at one moment of the offer the queue held as many lines as its capacity, which are no more than the lane's accepted lines and the
  -- other lanes' allotments
  abbrev pub WasFull : QueueLane R → Type 0
  WasFull l = Held (lane_capacity l) (Crowded (view l.pass))

  -- an offer after the allotment was spent
  pub record IsBeyond (l m : QueueLane R) : Type 0 where
    pub spent : length (lane_accepted l) ≡ lane_allotment l
    pub beyond : RisesByOne (lane_beyond l) (lane_beyond m)
    pub refused : lane_refused m ≡ lane_refused l

  -- an offer whose push the queue refused, since it was full
  pub record IsRefused (l m : QueueLane R) : Type 0 where
    pub full : WasFull l
    pub beyond : lane_beyond m ≡ lane_beyond l
    pub refused : RisesByOne (lane_refused l) (lane_refused m)

  -- A line is taken where the allotment has room for it. A Full accepts nothing: the allotment is spent, or the queue refused
  -- a push
  abbrev pub LaneOffered : QueueLane R → Line → Offer → QueueLane R → Type 0
  LaneOffered l x Taken m =
      (length (lane_accepted l) < lane_allotment l) × (lane_accepted m ≡ lane_accepted l ++ x ∷ [])
      × (lane_beyond m ≡ lane_beyond l) × (lane_refused m ≡ lane_refused l)
  LaneOffered l x (Full y) m =
      (y ≡ x) × (lane_accepted m ≡ lane_accepted l) × (IsBeyond l m ⊎ IsRefused l m)
  LaneOffered l x (Failed y) m = ⊥

  -- What holds of every lane, whatever was offered to it. It accepted at most its allotment, which is that of its bay. After
  -- an offer beyond the allotment it has accepted all of it. After a push that the queue refused, the capacity is at most its accepted
  -- lines and the other lanes' allotments. So where the capacity is at least the sum of the allotments, only its own allotment makes
  -- it Full
  pub record LaneParts (l : QueueLane R) : Type 0 where
    pub allotted : lane_allotment l ≡ get_or (lane_allotments l) (lane_bay l) 0
    pub within : length (lane_accepted l) ≤ lane_allotment l
    pub beyond : 0 < lane_beyond l → length (lane_accepted l) ≡ lane_allotment l
    pub refused : 0 < lane_refused l → CanBeFull l
    pub full : 0 < lane_fulls l → (length (lane_accepted l) ≡ lane_allotment l) ⊎ CanBeFull l
    pub spent : 0 < lane_fulls l → sum (lane_allotments l) ≤ lane_capacity l
        → length (lane_accepted l) ≡ lane_allotment l
