-- Room for lanes that are taken back.
use Rattle.std.specs.Prelude.{ℕ}
use Rattle.sink_lanes.specs.declared.room.SinkRoom.{SinkRoom}

-- for how many bays there is room
abbrev pub room_for : {S R : Type 0} → SinkRoom S R → ℕ
room_for room = room.bays
