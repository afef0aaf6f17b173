-- What is read, or the fault of the first check that fails.
use Rattle.std.specs.Prelude.{Bool, true, false, Option, Result}
use Rattle.json_value.specs.Results as results
use Rattle.token_users.specs.declared.fault.TokenFault.{TokenFault}
use Rattle.token_users.specs.declared.fault.TokenFault.TheVariants.{BadRow, Input, NoMemory}

-- no file makes it due: memory ran out, or the reader of CSV failed
abbrev pub is_free : TokenFault → Bool
is_free (BadRow row why) = false
is_free Input = true
is_free NoMemory = true

-- a fault that is answered is the one that is due, or one that no file makes due
abbrev pub Fails : TokenFault → Option TokenFault → Type 0
Fails = results.Fails is_free

-- what is answered, seen by view, is what is due, or a fault that no file makes due
abbrev pub Gives : {A B : Type 0} → (A → B) → Result A TokenFault → Result B TokenFault → Type 0
Gives = results.Gives is_free
