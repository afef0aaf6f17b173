-- What a plant tells, and what its calls change.
use Rattle.std.specs.Prelude.{◌≡◌, ◌≢◌, ℕ, List, Option, Some, None, Result, Ok, Err, ⊤}
use Rattle.truncate_backend.specs.Told.{Joined, Rises}
use Rattle.front_plants.specs.declared.call.PlantCall.{PlantCall}
use Rattle.front_plants.specs.declared.call.PlantFail.{PlantFail}
use Rattle.front_plants.specs.declared.call.PlantFail.TheVariants.{Port, NoMemory}
use Rattle.front_plants.specs.declared.call.PlantFault.{PlantFault}

-- how often a call failed for its port, and which one failed last, and why
pub record PlantFaults : Type 0 where
  pub count : ℕ
  pub last : Option PlantFault

abbrev pub no_faults : PlantFaults
no_faults = record { count = 0; last = None }

-- the calls that were made, in order, where they are told; for each bay the connections that its door will give once it is
-- made, where they are told; and which calls failed for their port
pub record PlantTells (C : Type 0) : Type 0 where
  pub made : Option (List PlantCall)
  pub due : ℕ → Option (List C)
  pub faults : PlantFaults

-- these calls were made, and what is due to each bay stays; the calls may be told no longer
pub record Called {C : Type 0} (m : PlantTells C) (calls : List PlantCall) (n : PlantTells C) : Type 0 where
  pub made : Joined m.made calls n.made
  pub due : n.due ≡ m.due

-- these calls were made for the door of a bay, and what is due to every other bay stays
pub record Opened {C : Type 0} (m : PlantTells C) (bay : ℕ) (calls : List PlantCall) (n : PlantTells C) : Type 0 where
  pub made : Joined m.made calls n.made
  pub due : (other : ℕ) → other ≢ bay → n.due other ≡ m.due other

-- one more call failed for its port, and this is the last that did
pub record Failed (before : PlantFaults) (fault : PlantFault) (after : PlantFaults) : Type 0 where
  pub counted : Rises before.count after.count
  pub last_is : after.last ≡ Some fault

-- a call that failed for its port was counted, and is told as it failed; otherwise none failed
abbrev pub HasCause : {T : Type 0} → PlantFaults → Result T PlantFail → PlantFaults → Type 0
HasCause before (Ok handle) after = after ≡ before
HasCause before (Err (Port fault)) after = Failed before fault after
HasCause before (Err NoMemory) after = after ≡ before

-- where a call failed for its port, this holds of how it failed
abbrev pub IfPort : {T : Type 0} → Result T PlantFail → (PlantFault → Type 0) → Type 0
IfPort (Ok handle) Q = ⊤
IfPort (Err (Port fault)) Q = Q fault
IfPort (Err NoMemory) Q = ⊤
