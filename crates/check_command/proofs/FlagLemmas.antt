-- Checks one after the other, where the first one fails.
use Rattle.std.proofs.Common.{◌≡◌, Bool, true, false, Some, Result, Ok, Err}
use Rattle.json_value.specs.Results.{◌>>=◌, Fails, Unless, fault_of}

-- a fault that the first check answers is that of both
pub fails_first : {A B E : Type 0} (is_memory : E → Bool) (fault : E) (first : Result A E) (next : A → Result B E)
    → Fails is_memory fault (fault_of first) → Fails is_memory fault (fault_of (first >>= next))
fails_first is_memory fault (Err e) next h = h
fails_first is_memory fault (Ok a) next h = never (is_memory fault) h
  where
    never : (b : Bool) → Unless b (fault_of (Ok a) ≡ Some fault) → Unless b (fault_of (next a) ≡ Some fault)
    never true h = tt
    never false h = absurd (cc h)
