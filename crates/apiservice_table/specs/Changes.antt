-- Changes of a table.
use Rattle.std.specs.Prelude.{◌≡◌, ℕ, ◌+◌, nat_lt, Bool, true, false, is_some, if◌then◌else◌, List, [], ◌∷◌, ◌++◌, length, Option, Some, None, ⊤}
use Rattle.apiservice_rows.specs.Row.{Row, IsRowName}
use Rattle.apiservice_rows.specs.declared.row_list.TheConstants.{MOST_ROWS}
use Rattle.apiservice_table.specs.Services.{object_named}
use Rattle.apiservice_table.specs.Table.{Table, row_named, with_row, without_row, next}
use Rattle.apiservice_table.specs.declared.change.Change.{Change}
use Rattle.apiservice_table.specs.declared.change.Change.TheVariants.{Create, Replace, Delete, Patch}
use Rattle.apiservice_table.specs.declared.change.ChangeFault.{ChangeFault}
use Rattle.apiservice_table.specs.declared.change.ChangeFault.TheVariants.{Exists, Missing, Full, Invalid, NoMemory}
use Rattle.service_patches.specs.Patches.{patched_row}

-- the row that a merge patch makes of the one of that name, if that is there and takes it
abbrev pub patched : List ℕ → List ℕ → Option Row → Option Row
patched name patch None = None
patched name patch (Some own) = patched_row name own.object patch

abbrev pub patched_in : List ℕ → List ℕ → List Row → Option Row
patched_in name patch rows = patched name patch (row_named name rows)

-- a patch that makes no row of one is refused
abbrev pub unless_made : Option Row → Option ChangeFault
unless_made None = Some Invalid
unless_made (Some new) = None

abbrev pub patch_refusal : List ℕ → List ℕ → Option Row → Option ChangeFault
patch_refusal name patch None = Some Missing
patch_refusal name patch (Some own) = unless_made (patched_row name own.object patch)

-- why rows don't take a change, if they don't
abbrev pub refusal : List Row → Change → Option ChangeFault
refusal rows (Create r) =
    if is_some (row_named r.name rows) then Some Exists
    else if nat_lt (length rows) MOST_ROWS then None
    else Some Full
refusal rows (Replace r) = if is_some (row_named r.name rows) then None else Some Missing
refusal rows (Delete name) = if is_some (row_named name rows) then None else Some Missing
refusal rows (Patch name patch) = patch_refusal name patch (row_named name rows)

-- the rows with one that was made, in its place by its name
abbrev pub with_any : Option Row → List Row → List Row
with_any None rows = rows
with_any (Some new) rows = with_row new rows

-- the rows with a change that they take
abbrev pub changed : List Row → Change → List Row
changed rows (Create r) = with_row r rows
changed rows (Replace r) = with_row r rows
changed rows (Delete name) = without_row name rows
changed rows (Patch name patch) = with_any (patched_in name patch rows) rows

-- rows stand at other places after a change
abbrev pub moves_rows : Change → Bool
moves_rows (Create r) = true
moves_rows (Replace r) = false
moves_rows (Delete name) = true
moves_rows (Patch name patch) = false

-- it is no patch
abbrev pub IsPlain : Change → Type 0
IsPlain (Create r) = ⊤
IsPlain (Replace r) = ⊤
IsPlain (Delete name) = ⊤
IsPlain (Patch name patch) = ⊥

-- the object that stands where a patch was made, by the rows after it; who makes another change knows what that leaves
abbrev pub left_by : Change → List Row → Option (List ℕ)
left_by (Create r) rows = None
left_by (Replace r) rows = None
left_by (Delete name) rows = None
left_by (Patch name patch) rows = object_named name rows

-- the rows after changes, one after another
abbrev pub after : List Row → List Change → List Row
after rows [] = rows
after rows (change ∷ changes) = after (changed rows change) changes

-- the table after a change that it takes
abbrev pub changed_table : Table → Change → Table
changed_table table change = record { rows = changed table.rows change; changes = next table.changes }

-- a refusal that was answered is the one that is due, unless memory ran out
abbrev pub IsDue : ChangeFault → Option ChangeFault → Type 0
IsDue Exists due = due ≡ Some Exists
IsDue Missing due = due ≡ Some Missing
IsDue Full due = due ≡ Some Full
IsDue Invalid due = due ≡ Some Invalid
IsDue NoMemory due = Unit {0}

-- a row that a change puts in has a name that tells its version and group
abbrev pub IsNamed : Change → Type 0
IsNamed (Create r) = IsRowName r.name r.version r.group
IsNamed (Replace r) = IsRowName r.name r.version r.group
IsNamed (Delete name) = Unit {0}
IsNamed (Patch name patch) = Unit {0}

-- more changes were seen, or none
abbrev pub IsLater : List Change → List Change → Type 0
IsLater old new = (more : List Change) × (new ≡ old ++ more)

-- a change was taken: it is the last that was seen, the rows after the others take it, and it stands at its place among
-- the own ones
abbrev pub Took : List Row → List Change → List (ℕ × Change) → Change → List Change → List (ℕ × Change) → Type 0
Took opening seen own change new_seen new_own =
    (before : List Change) × IsLater seen before × (new_seen ≡ before ++ change ∷ [])
    × (refusal (after opening before) change ≡ None) × (new_own ≡ own ++ (length before, change) ∷ [])

-- changes with their places, from that one on
abbrev pub placed : ℕ → List Change → List (ℕ × Change)
placed at [] = []
placed at (change ∷ changes) = (at, change) ∷ placed (at + 1) changes

-- what contracts see of routes on one thread: the rows before any change, and the changes
pub record Story : Type 0 where
  pub opening : List Row
  pub seen : List Change

-- the rows that they stand at
abbrev pub rows_of : Story → List Row
rows_of story = after story.opening story.seen
