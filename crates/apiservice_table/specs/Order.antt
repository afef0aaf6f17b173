-- What keeps a table in order.
use Rattle.std.specs.Prelude.{◌≡◌, ℕ, suc, List, [], ◌∷◌, ⊤, Result, Ok, Err}
use Rattle.std.specs.Cmp.Lexicographic.{slice_cmp}
use Rattle.std.specs.Ordering.{nat_cmp, match_ordering}
use Rattle.std.specs.declared.cmp.Ordering.TheVariants.{Less}
use Rattle.apiservice_rows.specs.Row.{Row, IsRowName}

-- each name comes after that one
abbrev pub AllAfter : List ℕ → List Row → Type 0
AllAfter name [] = ⊤
AllAfter name (r ∷ rows) = (slice_cmp nat_cmp name r.name ≡ Less) × AllAfter name rows

-- byte order of names, each name once
abbrev pub IsInOrder : List Row → Type 0
IsInOrder [] = ⊤
IsInOrder (r ∷ rows) = AllAfter r.name rows × IsInOrder rows

-- each name tells its row's version and group
abbrev pub AllNamed : List Row → Type 0
AllNamed [] = ⊤
AllNamed (r ∷ rows) = IsRowName r.name r.version r.group × AllNamed rows

-- the place one further on
abbrev pub further : Result ℕ ℕ → Result ℕ ℕ
further (Ok i) = Ok (suc i)
further (Err i) = Err (suc i)

-- the place of the row of that name, or else the place where it would stand
abbrev pub place_of : List ℕ → List Row → Result ℕ ℕ
place_of name [] = Err 0
place_of name (r ∷ rows) = match_ordering (slice_cmp nat_cmp r.name name) (further (place_of name rows)) (Ok 0) (Err 0)
