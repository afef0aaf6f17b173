-- The rows of an endpoints file that count for nothing: of those with one key the last counts.
use Rattle.std.specs.Prelude.{◌≡◌, ℕ, ◌+◌, List, [], ◌∷◌, ◌++◌, map, Option, Some, None, if◌then◌else◌}
use Rattle.csv.specs.Reading.{AreRecords, default_config, strip_bom}
use Rattle.csv.specs.declared.parser.State.TheVariants.{StartRecord}
use Rattle.apiservice_rows.specs.RowList.{is_among}
use Rattle.service_endpoints.specs.File.{text_at}
use Rattle.warned_files.specs.Places.{record_place, report}
use Rattle.warned_files.specs.declared.places.Places.{Places}

-- the rows of a file, as `csv` reads them without headers and with any number of fields
abbrev pub AreRows : List ℕ → List (List (List ℕ)) → Type 0
AreRows bytes rows = AreRecords default_config StartRecord (strip_bom bytes) rows

abbrev pub text_or_empty : Option (List ℕ) → List ℕ
text_or_empty None = []
text_or_empty (Some text) = text

-- the first field, where it is there and is text
abbrev pub key_of : List (List ℕ) → List ℕ
key_of fields = text_or_empty (text_at fields 0)

abbrev pub keys_of : List (List (List ℕ)) → List (List ℕ)
keys_of rows = map key_of rows

-- the places of the keys that come again, where the first key is that of the row with this number
abbrev pub overridden : ℕ → List (List ℕ) → List (List ℕ)
overridden row [] = []
overridden row (key ∷ keys) = (if is_among key keys then record_place row ∷ [] else []) ++ overridden (row + 1) keys

-- the report on the rows of a file
abbrev pub IsReport : List ℕ → Places → Type 0
IsReport bytes places =
    (rows : List (List (List ℕ))) × AreRows bytes rows × (places ≡ report (overridden 0 (keys_of rows)))
