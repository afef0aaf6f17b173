-- What the plant of a run of `ship` over the system counts.
use Rattle.std.specs.Prelude.{None}
use Rattle.front_plants.specs.Plants.{PlantTells}
use Rattle.ship_plant.specs.declared.plant.ShipPlant.{ShipPlant}
use Rattle.tcp_ports.specs.declared.conn.TcpConn.{TcpConn}

-- what a plant tells: how many of its calls failed, which was the last of these, and nothing else
abbrev pub plant_tells : {R : Type 0} → ShipPlant R → PlantTells (TcpConn R)
plant_tells plant = record { made = None; due = λ _. None; faults = record { count = plant.faults; last = plant.last } }
