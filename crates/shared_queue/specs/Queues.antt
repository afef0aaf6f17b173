-- What the outlet of a queue and its end tell.
use Rattle.std.specs.Prelude.{◌≡◌, ◌-◌, ◌^◌, min, ℕ, List, [], None, Some, length, map, sum_by, IfSome, slice_get, get_or, All}
use Rattle.crossbeam_queue.specs.Passes.{view}
use Rattle.front_base.specs.Line.{Line}
use Rattle.truncate_backend.specs.Outlets.{OutletTells}
use Rattle.shared_queue.specs.Ends as ends
use Rattle.shared_queue.specs.Homes.{home_of}
use Rattle.shared_queue.specs.Lanes.{lane_accepted, lane_allotment, lane_allotments, lane_capacity, lane_bay, lane_home, lane_fulls, lane_tells}
use Rattle.shared_queue.specs.declared.lane.QueueLane.{QueueLane}
use Rattle.shared_queue.specs.declared.outlet.QueueOutlet.{QueueOutlet}
use Rattle.shared_queue.specs.declared.queue_end.QueueEnd.{QueueEnd}

module _ {R : Type 0} where
  -- the lines that were taken, and how often there was none
  abbrev pub outlet_taken : QueueOutlet R → List Line
  outlet_taken o = (view o.pass).taken

  abbrev pub outlet_tells : QueueOutlet R → OutletTells
  outlet_tells o = record { taken = Some (outlet_taken o); empties = o.empties; left = None }

  -- its queue: the capacity, and the allotments of the lanes
  abbrev pub outlet_capacity : QueueOutlet R → ℕ
  outlet_capacity o = o.capacity

  abbrev pub outlet_allotments : QueueOutlet R → List ℕ
  outlet_allotments o = (view o.pass).allotments

  abbrev pub outlet_home : QueueOutlet R → List ℕ
  outlet_home o = home_of o.pass.table_id (outlet_capacity o) (outlet_allotments o)

  -- of the end: what each bay's lane accepted, the lines that were taken, and what is left of each bay
  abbrev pub end_accepted : QueueEnd R → List (List Line)
  end_accepted e = ends.accepts (view e.pass)

  abbrev pub end_taken : QueueEnd R → List Line
  end_taken e = (view e.pass).taken

  abbrev pub end_left : QueueEnd R → List (List Line)
  end_left e = ends.lefts (view e.pass)

  abbrev pub end_fulls : QueueEnd R → ℕ
  end_fulls e = e.fulls

  abbrev pub end_tells : QueueEnd R → OutletTells
  end_tells e = record { taken = Some (end_taken e); empties = e.empties; left = Some (end_left e) }

  -- its queue
  abbrev pub end_capacity : QueueEnd R → ℕ
  end_capacity e = e.capacity

  abbrev pub end_home : QueueEnd R → List ℕ
  end_home e = home_of e.pass.table_id (end_capacity e) (view e.pass).allotments

  -- a new lane of the outlet's queue, for this bay: nothing was offered to it yet
  pub record IsNewLane (outlet : QueueOutlet R) (bay : ℕ) (l : QueueLane R) : Type 0 where
    pub tells : lane_tells l ≡ record { accepted = Some []; tried = Some []; fulls = 0; faults = 0; sink = None }
    pub bay_is : lane_bay l ≡ bay
    pub home_is : lane_home l ≡ outlet_home outlet
    pub allotment_is : lane_allotment l ≡ get_or (outlet_allotments outlet) bay 0

  -- a new queue: a lane for each allotment, in the order of the bays, and the outlet of the same queue
  pub record IsNewQueue (capacity : ℕ) (allotments : List ℕ) (lanes : List (QueueLane R)) (outlet : QueueOutlet R) : Type 0 where
    pub count : length lanes ≡ length allotments
    pub capacity_is : outlet_capacity outlet ≡ capacity
    pub allotments_are : outlet_allotments outlet ≡ allotments
    pub lanes_are : (bay : ℕ) → IfSome (slice_get lanes bay) (IsNewLane outlet bay)
    pub tells : outlet_tells outlet ≡ record { taken = Some []; empties = 0; left = None }

  -- all lanes of a queue, in the order of their bays, and its outlet
  pub record AreOneQueue (lanes : List (QueueLane R)) (outlet : QueueOutlet R) : Type 0 where
    pub count : length lanes ≡ length (outlet_allotments outlet)
    pub home : All (λ l. lane_home l ≡ outlet_home outlet) lanes
    pub order : (bay : ℕ) → IfSome (slice_get lanes bay) (λ l. lane_bay l ≡ bay)

  -- the end of a queue: what its lanes accepted, what its outlet took, and how often its lanes were Full
  pub record IsQueueEnd (lanes : List (QueueLane R)) (outlet : QueueOutlet R) (end : QueueEnd R) : Type 0 where
    pub accepted : end_accepted end ≡ map lane_accepted lanes
    pub taken : end_taken end ≡ outlet_taken outlet
    pub empties : (end_tells end).empties ≡ (outlet_tells outlet).empties
    pub fulls : end_fulls end ≡ min (sum_by lane_fulls lanes) (2 ^ 64 - 1)
    pub home : end_home end ≡ outlet_home outlet
    pub capacity : end_capacity end ≡ outlet_capacity outlet

  -- what every end keeps, however many lines were popped from it
  abbrev pub KeepsParts : QueueEnd R → Type 0
  KeepsParts e = ends.EndParts (end_accepted e) (end_taken e) (end_left e) (end_capacity e)

  -- what no pop changes
  pub record SameEnd (e f : QueueEnd R) : Type 0 where
    pub accepted : end_accepted f ≡ end_accepted e
    pub fulls : end_fulls f ≡ end_fulls e
    pub home : end_home f ≡ end_home e
    pub capacity : end_capacity f ≡ end_capacity e

-- parts of queues with one home have one capacity, and the same allotments
pub record OneHome (R : Type 0) : Type 0 where
  pub lanes : (l m : QueueLane R) → lane_home l ≡ lane_home m
      → (lane_capacity l ≡ lane_capacity m) × (lane_allotments l ≡ lane_allotments m)
  pub outlet : (l : QueueLane R) (o : QueueOutlet R) → lane_home l ≡ outlet_home o
      → (lane_capacity l ≡ outlet_capacity o) × (lane_allotments l ≡ outlet_allotments o)
  pub outlets : (o p : QueueOutlet R) → outlet_home o ≡ outlet_home p
      → (outlet_capacity o ≡ outlet_capacity p) × (outlet_allotments o ≡ outlet_allotments p)
  pub ends : (e f : QueueEnd R) → end_home e ≡ end_home f → end_capacity e ≡ end_capacity f
