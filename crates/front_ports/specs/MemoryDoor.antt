-- What a door in memory tells.
use Rattle.std.specs.Prelude.{ℕ, List, map, Bool}
use Rattle.front_ports.specs.Memory.{MemConn}
use Rattle.front_ports.specs.Scripts.{next_is_listed}
use Rattle.front_ports.specs.declared.door.Visit.{Visit}
use Rattle.front_ports.specs.declared.mem_door.Expected.{Expected}
use Rattle.front_ports.specs.declared.mem_door.MemDoor.{MemDoor}

-- the connections of those that are expected
abbrev pub expected_conns : List Expected → List MemConn
expected_conns expected = map (λ e. e.conn) expected

-- the connections that it will still give
abbrev pub door_left : MemDoor → List MemConn
door_left door = expected_conns door.expected.items

-- those that it gave
abbrev pub door_given : MemDoor → List Visit
door_given door = door.given.items

-- how often no connection came any more, and how often it failed
abbrev pub door_closes : MemDoor → ℕ
door_closes door = door.closes

abbrev pub door_faults : MemDoor → ℕ
door_faults door = door.faults

-- the numbers of the calls that fail, and how many calls there were
abbrev pub door_fails : MemDoor → List ℕ
door_fails door = door.fails.items

abbrev pub door_calls : MemDoor → ℕ
door_calls door = door.calls

-- whether the next call fails: it is listed
abbrev pub door_will_fail : MemDoor → Bool
door_will_fail door = next_is_listed (door_fails door) (door_calls door)
