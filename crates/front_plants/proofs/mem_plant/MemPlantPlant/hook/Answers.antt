use Rattle.std.proofs.Common.{refl}
use Rattle.front_plants.proofs.mem_plant.MemPlantPlant.hook.Goals as goal

pub returns-in-Ok-start-clause-called : goal.returns-in-Ok-start-clause-called
returns-in-Ok-start-clause-called g c = record { made = rw c.in-Ok.ensures at c.note.ensures.joined; due = refl }
