-- A list that an object may tell.
use Rattle.std.specs.Prelude.{◌≡◌, List, ◌++◌, Option, None, Some, ⊤}

-- a list that is told grows by these, and one that isn't told stays so
abbrev pub Adds : {T : Type 0} → Option (List T) → Option (List T) → List T → Type 0
Adds None new more = new ≡ None
Adds (Some before) new more = new ≡ Some (before ++ more)

-- the same, but a list that was told may be told no longer
abbrev pub Grows : {T : Type 0} → Option (List T) → Option (List T) → List T → Type 0
Grows None new more = new ≡ None
Grows (Some before) None more = ⊤
Grows (Some before) (Some after) more = after ≡ before ++ more
