-- Which calls a plant had for its bays.
use Rattle.std.specs.Prelude.{ℕ, zero, suc, List, [], ◌∷◌, ◌++◌}
use Rattle.front_base.specs.declared.address.Address.{Address}
use Rattle.front_plants.specs.declared.call.PlantCall.{PlantCall}
use Rattle.front_plants.specs.declared.call.PlantCall.TheVariants.{Dial, Door, Clock, Diary}

-- a bay's dial, its door at that address, its clock and its diary
abbrev pub bay_calls : Address → ℕ → ℕ → List PlantCall
bay_calls listen connections bay = Dial bay ∷ Door listen bay connections ∷ Clock ∷ Diary ∷ []

-- those of so many bays, from this one on
abbrev pub bays_calls : Address → ℕ → ℕ → ℕ → List PlantCall
bays_calls listen connections bay zero = []
bays_calls listen connections bay (suc more) = bay_calls listen connections bay ++ bays_calls listen connections (suc bay) more
