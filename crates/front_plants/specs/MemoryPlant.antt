-- What a plant in memory tells, and what it will do.
use Rattle.std.specs.Prelude.{◌≡◌, ℕ, List, map, min, Option, Some, None, option_map, unwrap_or, slice_get, Bool, if◌then◌else◌}
use Rattle.front_ports.specs.Memory.{MemConn}
use Rattle.front_ports.specs.MemoryDoor.{door_left}
use Rattle.front_ports.specs.Scripts.{next_is_listed}
use Rattle.front_ports.specs.declared.mem_bytes.MemBytes.{MemBytes}
use Rattle.front_ports.specs.declared.mem_dial.MemDial.{MemDial}
use Rattle.front_ports.specs.declared.mem_door.MemDoor.{MemDoor}
use Rattle.truncate_backend.specs.Notes as notes
use Rattle.front_plants.specs.Plants.{PlantTells, PlantFaults}
use Rattle.front_plants.specs.Rooms.{notes_room}
use Rattle.front_plants.specs.declared.call.PlantCall.{PlantCall}
use Rattle.front_plants.specs.declared.call_notes.CallNotes.{CallNotes}
use Rattle.front_plants.specs.declared.failures.Failures.{Failures}
use Rattle.front_plants.specs.declared.mem_plant.MemPlant.{MemPlant}
use Rattle.front_plants.specs.declared.plant.TheConstants.{MOST_ALLOTTED}
use Rattle.front_plants.specs.declared.unused.UnusedDial.{UnusedDial}
use Rattle.front_plants.specs.declared.unused.UnusedDials.{UnusedDials}
use Rattle.front_plants.specs.declared.unused.UnusedDoor.{UnusedDoor}
use Rattle.front_plants.specs.declared.unused.UnusedDoors.{UnusedDoors}
use Rattle.front_plants.specs.declared.unused.UnusedSink.{UnusedSink}
use Rattle.front_plants.specs.declared.unused.UnusedSinks.{UnusedSinks}

-- the calls that were noted, until there was one too many
abbrev pub noted_calls : CallNotes → Option (List PlantCall)
noted_calls notes = if notes.lost then None else Some notes.calls.items

-- the numbers of the calls that fail, how many calls there were, and which failed
abbrev pub listed_fails : Failures → List ℕ
listed_fails failures = failures.fails.items

abbrev pub counted_calls : Failures → ℕ
counted_calls failures = failures.calls

abbrev pub counted_faults : Failures → PlantFaults
counted_faults failures = record { count = failures.faults; last = failures.last }

-- the doors that were not handed out, by their bays
abbrev pub slot_door : Option UnusedDoor → Option MemDoor
slot_door None = None
slot_door (Some unused) = Some unused.door

abbrev pub doors_left : UnusedDoors → List (Option MemDoor)
doors_left unused = map slot_door unused.doors.items

abbrev pub door_in : Option (Option MemDoor) → Option MemDoor
door_in None = None
door_in (Some slot) = slot

abbrev pub door_at : UnusedDoors → ℕ → Option MemDoor
door_at unused bay = door_in (slice_get (doors_left unused) bay)

-- the dials that were not handed out, in order
abbrev pub dials_of : List UnusedDial → List MemDial
dials_of dials = map (λ unused. unused.dial) dials

abbrev pub dials_left : UnusedDials → List MemDial
dials_left unused = dials_of unused.dials.items

-- what logs may still write to, in order
abbrev pub sinks_of : List UnusedSink → List MemBytes
sinks_of sinks = map (λ unused. unused.sink) sinks

abbrev pub sinks_left : UnusedSinks → List MemBytes
sinks_left unused = sinks_of unused.sinks.items

-- the allotment of a bay in a list of them, which is the greatest one at most; a bay past the list has 0
abbrev pub allotment_in : List ℕ → ℕ → ℕ
allotment_in allots bay = min (unwrap_or (slice_get allots bay) 0) MOST_ALLOTTED

-- what it tells
module _ {R : Type 0} where
  abbrev pub plant_made : MemPlant R → Option (List PlantCall)
  plant_made plant = noted_calls plant.noted

  -- the door of a bay, until it was handed out
  abbrev pub plant_door : MemPlant R → ℕ → Option MemDoor
  plant_door plant bay = door_at plant.doors bay

  abbrev pub plant_due : MemPlant R → ℕ → Option (List (MemConn))
  plant_due plant bay = option_map door_left (plant_door plant bay)

  abbrev pub plant_faults : MemPlant R → PlantFaults
  plant_faults plant = counted_faults plant.failures

  abbrev pub plant_tells : MemPlant R → PlantTells (MemConn)
  plant_tells plant = record { made = plant_made plant; due = plant_due plant; faults = plant_faults plant }

  -- the word that it answers, and the allotments
  abbrev pub plant_boot : MemPlant R → ℕ
  plant_boot plant = plant.boot

  abbrev pub plant_allots : MemPlant R → List ℕ
  plant_allots plant = plant.allots.items

  -- what is left to hand out
  abbrev pub plant_dials : MemPlant R → List MemDial
  plant_dials plant = dials_left plant.dials

  abbrev pub plant_logs : MemPlant R → List MemBytes
  plant_logs plant = sinks_left plant.logs

  abbrev pub plant_hooks : MemPlant R → List MemDial
  plant_hooks plant = dials_left plant.hooks

  -- the first moment of its clocks, and their step
  abbrev pub plant_start : MemPlant R → ℕ
  plant_start plant = plant.start

  abbrev pub plant_step : MemPlant R → ℕ
  plant_step plant = plant.step

  -- the room of the notes of its sinks
  abbrev pub plant_room : MemPlant R → notes.NotesRoom
  plant_room plant = notes_room plant.room

  -- the numbers of the calls that fail, and how many calls there were that can
  abbrev pub plant_fails : MemPlant R → List ℕ
  plant_fails plant = listed_fails plant.failures

  abbrev pub plant_calls : MemPlant R → ℕ
  plant_calls plant = counted_calls plant.failures

  -- whether the next call of those that can fail is listed
  abbrev pub plant_will_fail : MemPlant R → Bool
  plant_will_fail plant = next_is_listed (plant_fails plant) (plant_calls plant)

  -- a call changed nothing but what is told of the calls, and in turn: the counts of those that can fail and of those that
  -- did; and the doors, the dials, the logs or the webhooks that are left
  abbrev pub OnlyNotes : MemPlant R → MemPlant R → Type 0
  OnlyNotes old new = new ≡ record old { noted = new.noted }

  abbrev pub OnlyDoors : MemPlant R → MemPlant R → Type 0
  OnlyDoors old new = new ≡ record old { noted = new.noted; failures = new.failures; doors = new.doors }

  abbrev pub OnlyDials : MemPlant R → MemPlant R → Type 0
  OnlyDials old new = new ≡ record old { noted = new.noted; failures = new.failures; dials = new.dials }

  abbrev pub OnlyLogs : MemPlant R → MemPlant R → Type 0
  OnlyLogs old new = new ≡ record old { noted = new.noted; failures = new.failures; logs = new.logs }

  abbrev pub OnlyHooks : MemPlant R → MemPlant R → Type 0
  OnlyHooks old new = new ≡ record old { noted = new.noted; failures = new.failures; hooks = new.hooks }
