-- Ports in memory that did nothing yet.
use Rattle.std.specs.Prelude.{◌≡◌, [], Some}
use Rattle.front_ports.specs.Memory.{bytes_written, bytes_faults}
use Rattle.front_ports.specs.MemoryDial.{dial_calls, dial_faults, dial_link_faults}
use Rattle.front_ports.specs.MemoryDoor.{door_given, door_closes, door_faults}
use Rattle.front_ports.specs.declared.mem_bytes.MemBytes.{MemBytes}
use Rattle.front_ports.specs.declared.mem_dial.MemDial.{MemDial}
use Rattle.front_ports.specs.declared.mem_door.MemDoor.{MemDoor}

-- a door that gave nothing
pub record IsUnusedDoor (door : MemDoor) : Type 0 where
  pub ungiven : door_given door ≡ []
  pub no_close : door_closes door ≡ 0
  pub no_fault : door_faults door ≡ 0

-- a dial that called nobody
pub record IsUnusedDial (dial : MemDial) : Type 0 where
  pub uncalled : dial_calls dial ≡ Some []
  pub no_fault : dial_faults dial ≡ 0
  pub no_link_fault : dial_link_faults dial ≡ 0

-- a sink to which nothing was written
pub record IsUnusedSink (sink : MemBytes) : Type 0 where
  pub unwritten : bytes_written sink ≡ []
  pub no_fault : bytes_faults sink ≡ 0
