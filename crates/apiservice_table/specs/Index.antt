-- Rows by a hash of their group and version.
use Rattle.std.specs.Prelude.{◌≡◌, ℕ, ◌+◌, ◌<◌, ◌≤◌, ◌%◌, ◌==◌, if◌then◌else◌, List, [], ◌∷◌, length, drop, get_or, Option, Some, None}
use Rattle.std.specs.Hash.FoldHasher.{initial, write, finish}
use Rattle.apiservice_rows.specs.Row.{Row}
use Rattle.apiservice_table.specs.declared.index.TheConstants.{SLOTS}

-- the slot of a group and a version, by a hash of their bytes
unfoldable pub slot_of : List ℕ → List ℕ → ℕ
slot_of group version = finish (write (write initial group) version) % SLOTS

-- the place of the first row of that slot, where the first row of all is at that place
abbrev pub first_in : ℕ → ℕ → List Row → Option ℕ
first_in slot at [] = None
first_in slot at (r ∷ rows) =
    if slot_of r.group r.version == slot then Some at else first_in slot (at + 1) rows

-- what contracts see of an index: by slots, the place of the first row, and by places, that of the next row of the slot
pub record Links : Type 0 where
  pub first : List (Option ℕ)
  pub next : List (Option ℕ)

-- each slot leads to its first row at that place or behind it, and each of those rows to the next one of its slot
abbrev pub LinksFrom : ℕ → List Row → Links → Type 0
LinksFrom at rows links =
    ((slot : ℕ) (d : Option ℕ) → slot < SLOTS → get_or links.first slot d ≡ first_in slot at (drop at rows))
    × ((i : ℕ) (r : Row) (d : Option ℕ) → at ≤ i → i < length rows → r ≡ get_or rows i r
    → get_or links.next i d ≡ first_in (slot_of r.group r.version) (i + 1) (drop (i + 1) rows))

-- so do all rows
abbrev pub LinksAll : List Row → Links → Type 0
LinksAll rows links = LinksFrom 0 rows links
