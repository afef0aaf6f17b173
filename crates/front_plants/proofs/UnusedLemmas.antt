-- The doors of a plant in memory, by their bays.
use Rattle.std.proofs.Common.{zero, suc, ◌≡◌, ◌≢◌, ◌<◌, ◌≤◌, ℕ, List, [], ◌∷◌, length, map, set, get_or, Option, Some, None, slice_get, refl, arith}
use Rattle.front_ports.specs.declared.mem_door.MemDoor.{MemDoor}
use Rattle.front_plants.specs.MemoryPlant.{door_in, slot_door}
use Rattle.front_plants.specs.declared.unused.UnusedDoor.{UnusedDoor}

-- a list that has a door for each bay
pub door_in-all : (doors : List MemDoor) (bay : ℕ) → door_in (slice_get (map Some doors) bay) ≡ slice_get doors bay
door_in-all [] bay = refl
door_in-all (door ∷ doors) zero = refl
door_in-all (door ∷ doors) (suc bay) = door_in-all doors bay

-- the slot of a bay
pub door_in-slot : (slots : List (Option UnusedDoor)) (bay : ℕ) (slot : Option UnusedDoor) → bay < length slots → slot ≡ get_or slots bay slot → door_in (slice_get (map slot_door slots) bay) ≡ slot_door slot
door_in-slot [] bay slot within is = absurd (omega arith)
door_in-slot (s ∷ slots) zero slot within is = rw is refl
door_in-slot (s ∷ slots) (suc bay) slot within is = door_in-slot slots bay slot (omega arith) is

-- past the last bay there is none
pub door_in-past : (slots : List (Option UnusedDoor)) (bay : ℕ) → length slots ≤ bay → door_in (slice_get (map slot_door slots) bay) ≡ None
door_in-past [] bay past = refl
door_in-past (s ∷ slots) zero past = absurd (omega arith)
door_in-past (s ∷ slots) (suc bay) past = door_in-past slots bay (omega arith)

-- a slot that changes is that of its bay alone
pub door_in-other : (slots : List (Option UnusedDoor)) (bay other : ℕ) (slot : Option UnusedDoor) → other ≢ bay → door_in (slice_get (map slot_door (set slots bay slot)) other) ≡ door_in (slice_get (map slot_door slots) other)
door_in-other [] bay other slot apart = refl
door_in-other (s ∷ slots) zero zero slot apart = absurd (apart refl)
door_in-other (s ∷ slots) zero (suc other) slot apart = refl
door_in-other (s ∷ slots) (suc bay) zero slot apart = refl
door_in-other (s ∷ slots) (suc bay) (suc other) slot apart = door_in-other slots bay other slot (λ same. apart (omega arith))

-- the slot of a bay that was emptied
pub door_in-gone : (slots : List (Option UnusedDoor)) (bay : ℕ) → door_in (slice_get (map slot_door (set slots bay None)) bay) ≡ None
door_in-gone [] bay = refl
door_in-gone (s ∷ slots) zero = refl
door_in-gone (s ∷ slots) (suc bay) = door_in-gone slots bay
