-- A list of APIService objects and its rows, or its first fault.
use Rattle.std.specs.Prelude.{ℕ, ◌+◌, ◌||◌, nat_lt, Bool, true, false, if◌then◌else◌, List, [], ◌∷◌, ◌++◌, map, length, Option, Some, None, Result, Ok, Err, codes}
use Rattle.std.specs.Str.{bytes_eq}
use Rattle.serde_json.specs.Data.{Data, Items, no_items, item}
use Rattle.json_value.specs.Members.{present, is_text, list_or}
use Rattle.json_value.specs.Read.{value_of}
use Rattle.json_value.specs.Results.{◌>>=◌, faultless, found_or}
use Rattle.apiservice_rows.specs.Object.{row_of}
use Rattle.apiservice_rows.specs.Row.{Row}
use Rattle.apiservice_rows.specs.declared.fault.RowFault.{RowFault}
use Rattle.apiservice_rows.specs.declared.fault.RowFault.TheVariants.{NotJson, BadField, Repeated, Full}
use Rattle.apiservice_rows.specs.declared.row_list.TheConstants.{MOST_ROWS}

-- the rows of the items, of which the first has this place; the first faulty one gives the answer
unfoldable pub item_rows : ℕ → Items → Result (List Row) RowFault
item_rows place no_items = Ok []
item_rows place (item d ds) = do
  first ← row_of (Some place) d
  others ← item_rows (place + 1) ds
  Ok (first ∷ others)

-- an absent list is at fault too
abbrev pub items_in : Option Data → Result (List Row) RowFault
items_in found = list_or (BadField None (codes "items")) (Err (BadField None (codes "items"))) (item_rows 0) found

-- a list by its kind, as `kubectl get apiservices -o json` prints one
abbrev pub is_list : Data → Bool
is_list d =
    is_text (codes "APIServiceList") (present (codes "kind") d)
    || is_text (codes "List") (present (codes "kind") d)

abbrev pub is_among : List ℕ → List (List ℕ) → Bool
is_among name [] = false
is_among name (own ∷ names) = bytes_eq own name || is_among name names

-- the fault of the first name that stood before, whose place is the number of those before it
unfoldable pub repeated : List (List ℕ) → List (List ℕ) → Option RowFault
repeated before [] = None
repeated before (name ∷ names) =
    if is_among name before then Some (Repeated (length before) name) else repeated (before ++ name ∷ []) names

abbrev pub names_of : List Row → List (List ℕ)
names_of rows = map (λ (r : Row). r.name) rows

-- no name comes twice
unfoldable pub distinct : List (List ℕ) → Result (Unit {0}) RowFault
distinct names = faultless (λ fault. fault) (repeated [] names)

-- at most as many rows as a table holds
unfoldable pub few : List Row → Result (List Row) RowFault
few rows = if nat_lt MOST_ROWS (length rows) then Err Full else Ok rows

-- the rows of one object
unfoldable pub one_row : Data → Result (List Row) RowFault
one_row d = do
  row ← row_of None d
  Ok (row ∷ [])

-- the rows of a list
unfoldable pub list_rows : Data → Result (List Row) RowFault
list_rows d = do
  rows ← items_in (present (codes "items") d)
  each ← distinct (names_of rows)
  few rows

-- the rows of a text: of one object, or of a list
unfoldable pub read_rows : List ℕ → Result (List Row) RowFault
read_rows bytes = do
  d ← found_or NotJson (value_of bytes)
  if is_list d then list_rows d else one_row d
