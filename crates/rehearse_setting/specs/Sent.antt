-- What clients send in a rehearsal.
use Rattle.std.specs.Prelude.{◌≡◌, ℕ, ◌<◌, List, [], ◌∷◌, slice_get, Option, Some, IfSome}
use Rattle.front_ports.specs.Memory.{MemConn, conn_from, duplex_left}
use Rattle.front_ports.specs.MemoryDoor.{door_left}
use Rattle.front_ports.specs.declared.mem_door.MemDoor.{MemDoor}
use Rattle.rehearse_plan.specs.Requests.{bay_input}

-- one connection, from this machine, which sends the requests of that bay and ends
pub record IsSent (start count bays bay : ℕ) (conns : List (MemConn)) : Type 0 where
  pub conn : MemConn
  pub only : conns ≡ conn ∷ []
  pub input : duplex_left conn ≡ bay_input start count bays bay
  pub from : conn_from conn ≡ 127 ∷ 0 ∷ 0 ∷ 1 ∷ []

-- by the door of each bay
abbrev pub AreSent : ℕ → ℕ → ℕ → List MemDoor → Type 0
AreSent start count bays doors = (bay : ℕ) → IfSome (slice_get doors bay) (λ door. IsSent start count bays bay (door_left door))

-- it is due to each bay
abbrev pub IsDue : ℕ → ℕ → ℕ → (ℕ → Option (List (MemConn))) → Type 0
IsDue start count bays due = (bay : ℕ) → bay < bays
    → (conns : List (MemConn)) × (due bay ≡ Some conns) × IsSent start count bays bay conns
