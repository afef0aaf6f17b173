-- Checks one after the other: the first fault is that of all. And what is answered where memory may run out.
use Rattle.std.specs.Prelude.{◌≡◌, Bool, true, false, Option, Some, None, Result, Ok, Err, ⊤}

infixl 10 ◌>>=◌
abbrev pub ◌>>=◌ : {A B E : Type 0} → Result A E → (A → Result B E) → Result B E
(Ok a) >>= f = f a
(Err e) >>= f = Err e

abbrev pub found_or : {A E : Type 0} → E → Option A → Result A E
found_or fault None = Err fault
found_or fault (Some a) = Ok a

-- nothing is at fault, or something that makes this fault
abbrev pub faultless : {A E : Type 0} → (A → E) → Option A → Result (Unit {0}) E
faultless fault None = Ok tt
faultless fault (Some a) = Err (fault a)

abbrev pub fault_of : {A E : Type 0} → Result A E → Option E
fault_of (Ok a) = None
fault_of (Err e) = Some e

abbrev pub Unless : Bool → Type 0 → Type 0
Unless true P = ⊤
Unless false P = P

-- a fault that is answered is the one that is due, unless it says that memory ran out
abbrev pub Fails : {E : Type 0} → (E → Bool) → E → Option E → Type 0
Fails is_memory fault due = Unless (is_memory fault) (due ≡ Some fault)

-- what is answered, seen by view, is what is due, unless memory ran out
abbrev pub Gives : {A B E : Type 0} → (E → Bool) → (A → B) → Result A E → Result B E → Type 0
Gives is_memory view (Ok a) due = due ≡ Ok (view a)
Gives is_memory view (Err fault) due = Fails is_memory fault (fault_of due)
