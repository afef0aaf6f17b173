-- How the program ends after a run.
use Rattle.command_ends.specs.declared.status.Status.{Status}
use Rattle.command_ends.specs.declared.status.Status.TheVariants as status
use Rattle.serve_runs.specs.declared.ended.RunStatus.{RunStatus}
use Rattle.serve_runs.specs.declared.ended.RunStatus.TheVariants.{Done, Unopened, DoorFault, NoMemory, NumbersSpent}

abbrev pub status_of : RunStatus → Status
status_of Done = status.Done
status_of (Unopened fault) = status.PortFault
status_of DoorFault = status.PortFault
status_of NoMemory = status.NoMemory
status_of NumbersSpent = status.NumbersSpent
