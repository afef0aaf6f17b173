-- A queue of lines on one thread, and what it tells.
use Rattle.std.specs.Prelude.{◌≡◌, ◌+◌, ◌<◌, ◌≤◌, ◌-◌, ℕ, List, [], ◌∷◌, ◌++◌, length, take, Option, Some, None, option_map, IfSome, Bool, true, false, ◌&&◌}
use Rattle.front_base.specs.Line.{Line}
use Rattle.truncate_backend.specs.Copies.{Copies, copies_fit}
use Rattle.truncate_backend.specs.Lanes.{LaneTells}
use Rattle.truncate_backend.specs.Outlets.{OutletTells}
use Rattle.truncate_backend.specs.declared.lane.Offer.{Offer}
use Rattle.truncate_backend.specs.declared.lane.Offer.TheVariants.{Taken, Full, Failed}
use Rattle.bounded_buffer.specs.declared.ring_lane.RingLane.{RingLane}

-- the list, where it is told
abbrev pub told_of : Bool → List Line → Option (List Line)
told_of true lines = Some lines
told_of false lines = None

-- the lines that it holds, the first of which comes out next
abbrev pub ring_contents : RingLane → List Line
ring_contents r = r.queue.items

-- how many it may hold
abbrev pub ring_capacity : RingLane → ℕ
ring_capacity r = r.capacity

-- whether copies of all lines that it accepted fit into their room, and these copies
abbrev pub ring_is_told : RingLane → Bool
ring_is_told r = r.told

abbrev pub ring_copies : RingLane → Copies
ring_copies r = r.copies

-- the lines that it accepted
abbrev pub ring_accepted : RingLane → Option (List Line)
ring_accepted r = told_of r.told r.copies.lines

-- the lines that were taken: all that it accepted but for those that it holds
abbrev pub ring_taken : RingLane → Option (List Line)
ring_taken r = told_of r.told (take (length r.copies.lines - length r.queue.items) r.copies.lines)

-- what it tells as a lane, and as an outlet
abbrev pub ring_lane : RingLane → LaneTells
ring_lane r = record { accepted = ring_accepted r; tried = ring_accepted r; fulls = r.fulls; faults = 0; sink = None }

abbrev pub ring_outlet : RingLane → OutletTells
ring_outlet r = record { taken = ring_taken r; empties = r.empties; left = Some (ring_contents r ∷ []) }

-- what holds of every ring: it accepted what was taken followed by what it holds; it holds at most its capacity; and one
-- that was full had accepted at least so many lines
pub record RingParts (r : RingLane) : Type 0 where
  pub accepted : ring_accepted r ≡ option_map (λ taken. taken ++ ring_contents r) (ring_taken r)
  pub within : length (ring_contents r) ≤ ring_capacity r
  pub full : 0 < (ring_lane r).fulls → IfSome (ring_taken r) (λ taken. ring_capacity r ≤ length taken + length (ring_contents r))

-- it is full exactly where it holds its capacity, and tells its lists as long as all copies fit
abbrev pub RingOffered : RingLane → Line → Offer → RingLane → Type 0
RingOffered r x Taken s =
    (length (ring_contents r) < ring_capacity r) × (ring_contents s ≡ ring_contents r ++ x ∷ [])
    × (ring_is_told s ≡ (ring_is_told r && copies_fit (ring_copies r) (x ∷ [])))
RingOffered r x (Full y) s =
    (length (ring_contents r) ≡ ring_capacity r) × (ring_contents s ≡ ring_contents r)
    × (ring_is_told s ≡ ring_is_told r)
RingOffered r x (Failed y) s = ⊥

-- the capacity, and the room for copies
pub record SameRoom (r s : RingLane) : Type 0 where
  pub capacity : ring_capacity s ≡ ring_capacity r
  pub lines : (ring_copies s).most_lines ≡ (ring_copies r).most_lines
  pub bytes : (ring_copies s).most_bytes ≡ (ring_copies r).most_bytes

-- nothing was offered yet
pub record IsNewRing (r : RingLane) (capacity lines bytes : ℕ) : Type 0 where
  pub lane : ring_lane r ≡ record { accepted = Some []; tried = Some []; fulls = 0; faults = 0; sink = None }
  pub outlet : ring_outlet r ≡ record { taken = Some []; empties = 0; left = Some ([] ∷ []) }
  pub capacity_is : ring_capacity r ≡ capacity
  pub copies_are : ring_copies r ≡ record { lines = []; most_lines = lines; most_bytes = bytes }
