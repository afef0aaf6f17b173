-- A table of rows in byte order of names, as a list.
use Rattle.std.specs.Prelude.{◌≡◌, ℕ, ◌+◌, ◌-◌, ◌^◌, ◌&&◌, nat_lt, if◌then◌else◌, List, [], ◌∷◌, Option, Some, None, ⊤}
use Rattle.std.specs.Cmp.Lexicographic.{slice_cmp}
use Rattle.std.specs.Ordering.{nat_cmp, match_ordering}
use Rattle.std.specs.Str.{bytes_eq}
use Rattle.apiservice_rows.specs.Row.{Row}

-- the row of that name
abbrev pub row_named : List ℕ → List Row → Option Row
row_named name [] = None
row_named name (r ∷ rows) = if bytes_eq r.name name then Some r else row_named name rows

-- the row of that group and version
abbrev pub row : List ℕ → List ℕ → List Row → Option Row
row group version [] = None
row group version (r ∷ rows) =
    if bytes_eq r.group group && bytes_eq r.version version then Some r else row group version rows

-- the rows with that one, in its place by its name
abbrev pub with_row : Row → List Row → List Row
with_row new [] = new ∷ []
with_row new (r ∷ rows) =
    match_ordering (slice_cmp nat_cmp r.name new.name) (r ∷ with_row new rows) (new ∷ rows) (new ∷ r ∷ rows)

-- the rows but the one of that name
abbrev pub without_row : List ℕ → List Row → List Row
without_row name [] = []
without_row name (r ∷ rows) = if bytes_eq r.name name then rows else r ∷ without_row name rows

-- rows put in one after another
abbrev pub with_rows : List Row → List Row → List Row
with_rows [] rows = rows
with_rows (new ∷ others) rows = with_rows others (with_row new rows)

-- no two rows have one name
abbrev pub HasDistinctNames : List Row → Type 0
HasDistinctNames [] = ⊤
HasDistinctNames (r ∷ rows) = (row_named r.name rows ≡ None) × HasDistinctNames rows

-- what contracts see of a table: its rows, and how many changes it has taken
pub record Table : Type 0 where
  pub rows : List Row
  pub changes : ℕ

-- one more, up to the last number of 64 bits
abbrev pub next : ℕ → ℕ
next n = if nat_lt n (2 ^ 64 - 1) then n + 1 else n
