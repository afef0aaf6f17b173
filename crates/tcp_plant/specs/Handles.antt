-- What the handles over the system count, and the moment that a clock gave last.
use Rattle.std.specs.Prelude.{ℕ, None}
use Rattle.front_plants.specs.Plants.{PlantTells}
use Rattle.tcp_plant.specs.declared.clock.SystemClock.{SystemClock}
use Rattle.tcp_plant.specs.declared.log_file.LogFile.{LogFile}
use Rattle.tcp_plant.specs.declared.plant.TcpPlant.{TcpPlant}
use Rattle.tcp_ports.specs.declared.conn.TcpConn.{TcpConn}

-- the moment that a clock gave last, 0 before the first
abbrev pub clock_last : {R : Type 0} → SystemClock R → ℕ
clock_last clock = clock.last

-- how often it has rested
abbrev pub clock_rests : {R : Type 0} → SystemClock R → ℕ
clock_rests clock = clock.rests

-- how many writes of a log failed
abbrev pub file_faults : {R : Type 0} → LogFile R → ℕ
file_faults file = file.faults

-- what a plant tells: how many of its calls failed, which was the last of these, and nothing else
abbrev pub plant_tells : {R : Type 0} → TcpPlant R → PlantTells (TcpConn R)
plant_tells plant = record { made = None; due = λ _. None; faults = record { count = plant.faults; last = plant.last } }
