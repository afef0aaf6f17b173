-- Why nothing ran.
use Rattle.std.specs.Prelude.{◌≡◌, []}
use Rattle.audit_core.specs.declared.settings.Settings.{Settings}
use Rattle.front_plants.specs.Plants.{PlantTells, PlantFaults, Failed}
use Rattle.serve_bays.specs.declared.options.RunOptions.{RunOptions}
use Rattle.serve_runs.specs.Made.{RunCallsPart}
use Rattle.serve_runs.specs.declared.ended.Ended.{Ended}
use Rattle.serve_runs.specs.declared.ended.RunStatus.{RunStatus}
use Rattle.serve_runs.specs.declared.ended.RunStatus.TheVariants.{Done, Unopened, DoorFault, NoMemory, NumbersSpent}

-- this call of the plant failed last, which it counted, or memory ran out
abbrev pub NoRun : PlantFaults → PlantFaults → RunStatus → Type 0
NoRun before after Done = ⊥
NoRun before after (Unopened fault) = Failed before fault after
NoRun before after DoorFault = ⊥
NoRun before after NoMemory = after ≡ before
NoRun before after NumbersSpent = ⊥

-- there are no bays; why; and the plant had some of the calls that a run makes, from the first one on, and no other
pub record NothingRan {R L W H K Y D C : Type 0} (set : Settings) (options : RunOptions) (before after : PlantTells C)
    (ended : Ended R L W H K Y D) : Type 0 where
  pub none : ended.bays.items ≡ []
  pub cause : NoRun before.faults after.faults ended.status
  pub called : RunCallsPart set options before.made after.made
