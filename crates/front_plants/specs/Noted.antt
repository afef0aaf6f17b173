-- How long calls are told.
use Rattle.std.specs.Prelude.{◌≤◌, List, length, Option, Some, None, ⊤}
use Rattle.front_plants.specs.declared.call.PlantCall.{PlantCall}
use Rattle.front_plants.specs.declared.call_notes.TheConstants.{MOST_NOTED_CALLS}

-- calls are told no longer only where as many were noted as there is room for
abbrev pub LosesPast : Option (List PlantCall) → Option (List PlantCall) → Type 0
LosesPast None new = ⊤
LosesPast (Some calls) None = MOST_NOTED_CALLS ≤ length calls
LosesPast (Some calls) (Some more) = ⊤
