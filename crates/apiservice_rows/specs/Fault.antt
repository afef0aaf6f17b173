-- What is read, or the fault of the first check that fails.
use Rattle.std.specs.Prelude.{Bool, true, false, Option, Result}
use Rattle.json_value.specs.Results as results
use Rattle.json_value.specs.declared.fault.ValueError.{ValueError}
use Rattle.json_value.specs.declared.fault.ValueError.TheVariants as value
use Rattle.apiservice_rows.specs.declared.fault.RowFault.{RowFault}
use Rattle.apiservice_rows.specs.declared.fault.RowFault.TheVariants.{NotJson, BadField, NameMismatch, Range, Repeated, Full, NoMemory}

abbrev pub is_memory : RowFault → Bool
is_memory NotJson = false
is_memory (BadField item member) = false
is_memory (NameMismatch item) = false
is_memory (Range item member) = false
is_memory (Repeated item name) = false
is_memory Full = false
is_memory NoMemory = true

-- a fault that is answered is the one that is due, unless memory ran out
abbrev pub Fails : RowFault → Option RowFault → Type 0
Fails = results.Fails is_memory

-- what is answered, seen by view, is what is due, unless memory ran out
abbrev pub Gives : {A B : Type 0} → (A → B) → Result A RowFault → Result B RowFault → Type 0
Gives = results.Gives is_memory

-- the fault of bytes that give no value
abbrev pub no_value : ValueError → RowFault
no_value value.NotJson = NotJson
no_value value.NoMemory = NoMemory
