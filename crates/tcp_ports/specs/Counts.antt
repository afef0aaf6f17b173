-- How often the calls on a port failed, and its sides, which tell no bytes.
use Rattle.std.specs.Prelude.{ℕ, Bool, List, [], ◌∷◌, Option, None, ◌==◌, ◌-◌, ◌^◌, if◌then◌else◌}
use Rattle.front_ports.specs.Side.{Side}
use Rattle.front_ports.specs.declared.door.Visit.{Visit}
use Rattle.tcp_ports.specs.declared.conn.TcpConn.{TcpConn}
use Rattle.tcp_ports.specs.declared.dial.TcpDial.{TcpDial}
use Rattle.tcp_ports.specs.declared.door.TcpDoor.{TcpDoor}
use Rattle.tcp_ports.specs.declared.link.TcpLink.{TcpLink}

-- how many reads and writes of a connection failed
abbrev pub conn_read_faults : {R : Type 0} → TcpConn R → ℕ
conn_read_faults conn = conn.read_faults

abbrev pub conn_write_faults : {R : Type 0} → TcpConn R → ℕ
conn_write_faults conn = conn.write_faults

-- the address of its peer
abbrev pub conn_from : {R : Type 0} → TcpConn R → List ℕ
conn_from conn = conn.peer

-- whether it will wish to end: it doesn't tell
abbrev pub conn_wishes : {R : Type 0} → TcpConn R → Option (List Bool)
conn_wishes conn = None

-- its input and its output, each of which a call on the other leaves
abbrev pub conn_input : {R : Type 0} → TcpConn R → Side
conn_input conn = record { told = None; faults = conn.read_faults; mark = conn.peer; wishes = None }

abbrev pub conn_output : {R : Type 0} → TcpConn R → Side
conn_output conn = record { told = None; faults = conn.write_faults; mark = conn.peer; wishes = None }

-- how many reads and writes of a link failed
abbrev pub link_read_faults : {R : Type 0} → TcpLink R → ℕ
link_read_faults link = link.read_faults

abbrev pub link_write_faults : {R : Type 0} → TcpLink R → ℕ
link_write_faults link = link.write_faults

-- its input and its output; since its dial notes no calls, each link has the number 0
abbrev pub link_input : {R : Type 0} → TcpLink R → Side
link_input link = record { told = None; faults = link.read_faults; mark = 0 ∷ []; wishes = None }

abbrev pub link_output : {R : Type 0} → TcpLink R → Side
link_output link = record { told = None; faults = link.write_faults; mark = 0 ∷ []; wishes = None }

-- how many dials failed, and how many links were handed back on which a call had failed
abbrev pub dial_faults : {R : Type 0} → TcpDial R → ℕ
dial_faults dial = dial.faults

abbrev pub dial_link_faults : {R : Type 0} → TcpDial R → ℕ
dial_link_faults dial = dial.link_faults

-- how often a door answered that no connection comes any more, and how often it failed
abbrev pub door_closes : {R : Type 0} → TcpDoor R → ℕ
door_closes door = door.closes

abbrev pub door_faults : {R : Type 0} → TcpDoor R → ℕ
door_faults door = door.faults

-- how many connections it may still give
abbrev pub door_remaining : {R : Type 0} → TcpDoor R → ℕ
door_remaining door = door.remaining

-- that of a door made for so many connections: 0 stands for no end, which is more than any run takes
abbrev pub most_of : ℕ → ℕ
most_of connections = if connections == 0 then 2 ^ 64 - 1 else connections

-- which connections a door will give, and which it gave: it tells neither
abbrev pub door_left : {R : Type 0} → TcpDoor R → Option (List (TcpConn R))
door_left door = None

abbrev pub door_given : {R : Type 0} → TcpDoor R → Option (List Visit)
door_given door = None
