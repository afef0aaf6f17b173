-- Places in a file, as refusals spell them.
use Rattle.std.specs.Prelude.{ℕ, ◌+◌, ◌-◌, List, [], ◌∷◌, ◌++◌, length, take, codes}
use Rattle.std.specs.Fmt.{decimal}
use Rattle.warned_files.specs.declared.places.Places.{Places}
use Rattle.warned_files.specs.declared.places.TheConstants.{MOST_SHOWN}

-- `OBJECT.NAME`; the file's own object has no place, and its members are `NAME`
abbrev pub member_place : List ℕ → List ℕ → List ℕ
member_place [] name = name
member_place (b ∷ bs) name = (b ∷ bs) ++ (codes "." ++ name)

-- `LIST[I]`, counted from 0
abbrev pub item_place : List ℕ → ℕ → List ℕ
item_place list i = list ++ (codes "[" ++ (decimal i ++ codes "]"))

-- `record N`, counted from 1
abbrev pub record_place : ℕ → List ℕ
record_place row = codes "record " ++ decimal (row + 1)

-- the first of all places, and how many more there are
abbrev pub report : List (List ℕ) → Places
report all = record { shown = take MOST_SHOWN all; more = length all - MOST_SHOWN }
