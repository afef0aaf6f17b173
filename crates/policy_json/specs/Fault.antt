-- What is read, or the fault of the first check that fails.
use Rattle.std.specs.Prelude.{Bool, true, false, Option, Result}
use Rattle.json_value.specs.Results as results
use Rattle.json_value.specs.declared.fault.ValueError.{ValueError}
use Rattle.json_value.specs.declared.fault.ValueError.TheVariants as value
use Rattle.policy_json.specs.declared.fault.PolicyFault.{PolicyFault}
use Rattle.policy_json.specs.declared.fault.PolicyFault.TheVariants.{NotJson, NoRules, BadField, BothKinds, BadUrl, NamesWithoutResources, NoMemory}

abbrev pub is_memory : PolicyFault → Bool
is_memory NotJson = false
is_memory NoRules = false
is_memory (BadField rule name) = false
is_memory (BothKinds rule) = false
is_memory (BadUrl rule) = false
is_memory (NamesWithoutResources rule) = false
is_memory NoMemory = true

-- a fault that is answered is the one that is due, unless memory ran out
abbrev pub Fails : PolicyFault → Option PolicyFault → Type 0
Fails = results.Fails is_memory

-- what is answered, seen by view, is what is due, unless memory ran out
abbrev pub Gives : {A B : Type 0} → (A → B) → Result A PolicyFault → Result B PolicyFault → Type 0
Gives = results.Gives is_memory

-- the fault of bytes that give no value
abbrev pub no_value : ValueError → PolicyFault
no_value value.NotJson = NotJson
no_value value.NoMemory = NoMemory
