-- Room for what bays leave.
use Rattle.std.specs.Prelude.{ℕ}
use Rattle.serve_roles.specs.declared.room.EndRoom.{EndRoom}

-- for how many bays there is room
abbrev pub room_for : {R L W H T K Y D : Type 0} → EndRoom R L W H T K Y D → ℕ
room_for room = room.bays
