-- Words that are refused before their options are looked at.
use Rattle.std.proofs.Common.{◌≡◌, Bool, true, false, Some, Result, Ok, Err}
use Rattle.json_value.specs.Results.{◌>>=◌, Unless, fault_of}
use Rattle.command_options.specs.Options.{Fails, is_memory}
use Rattle.command_options.specs.declared.fault.WordsFault.{WordsFault}
use Rattle.ship_command.specs.Ship.{in_words}
use Rattle.ship_command.specs.declared.fault.ShipFault.{ShipFault}
use Rattle.ship_command.specs.declared.fault.ShipFault.TheVariants.{Words}

abbrev Refused : {B : Type 0} → WordsFault → Result B ShipFault → Type 0
Refused fault due = Unless (is_memory fault) (fault_of due ≡ Some (Words fault))

-- the fault of words is that of all
pub refused : {A B : Type 0} (words : Result A WordsFault) (next : A → Result B ShipFault) (fault : WordsFault)
    → Fails fault (fault_of words) → Refused fault (in_words words >>= next)
refused (Err own) next fault h = go (is_memory fault) h
  where
    go : (b : Bool) → Unless b (Some own ≡ Some fault) → Unless b (Some (Words own) ≡ Some (Words fault))
    go true h = tt
    go false h = cc h
refused (Ok a) next fault h = go (is_memory fault) h
  where
    go : (b : Bool) → Unless b (fault_of (Ok a) ≡ Some fault) → Unless b (fault_of (next a) ≡ Some (Words fault))
    go true h = tt
    go false h = absurd (cc h)
