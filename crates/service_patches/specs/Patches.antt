-- What a merge patch makes of an APIService (RFC 7396; Kubernetes, "API concepts": patches of objects).
use Rattle.std.specs.Prelude.{ℕ, List, length, nat_le, Option, Some, None, Result, Ok, Err, if◌then◌else◌}
use Rattle.std.specs.Str.{bytes_eq}
use Rattle.serde_json.specs.Data.{Data}
use Rattle.serde_json.specs.Written.{has_float, compact_text}
use Rattle.http_edge.specs.declared.TheConstants.{MOST_BODY_BYTES}
use Rattle.json_value.specs.Read.{value_of}
use Rattle.json_patch.specs.Merge.{merged}
use Rattle.apiservice_rows.specs.Object.{read_row}
use Rattle.apiservice_rows.specs.Row.{Row}
use Rattle.apiservice_rows.specs.declared.fault.RowFault.{RowFault}

-- the text of an object that could be put, which is as long as the body of a request may be
abbrev pub bounded : List ℕ → Option (List ℕ)
bounded text = if nat_le (length text) MOST_BODY_BYTES then Some text else None

-- the text of a value; none where a number in it has a fraction, as no APIService has one, and none that is longer
abbrev pub text_of : Data → Option (List ℕ)
text_of d = if has_float d then None else bounded (compact_text d)

-- the text of what a patch makes of an object, where both are JSON
abbrev pub merged_text : Option Data → Option Data → Option (List ℕ)
merged_text None patch = None
merged_text (Some d) None = None
merged_text (Some d) (Some patch) = text_of (merged d patch)

abbrev pub row_of : Result Row RowFault → Option Row
row_of (Ok row) = Some row
row_of (Err fault) = None

-- the row that a text is read as, if it is
abbrev pub row_in : List ℕ → Option Row
row_in text = row_of (read_row text)

-- the row, if it has that name
abbrev pub named : List ℕ → Option Row → Option Row
named name None = None
named name (Some row) = if bytes_eq row.name name then Some row else None

abbrev pub row_by : List ℕ → Option (List ℕ) → Option Row
row_by name None = None
row_by name (Some text) = named name (row_in text)

-- the row of that name after the patch, by the texts of the object and of the patch; none where it would be refused
abbrev pub patched_row : List ℕ → List ℕ → List ℕ → Option Row
patched_row name object patch = row_by name (merged_text (value_of object) (value_of patch))
