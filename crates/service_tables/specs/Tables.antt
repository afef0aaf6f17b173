-- The Table of APIServices, as JSON without white space (Kubernetes, `meta/v1`: Table, TableColumnDefinition, TableRow).
use Rattle.std.specs.Prelude.{ℕ, List, ◌++◌, codes, unwrap_or}
use Rattle.std.specs.List.{join_by}
use Rattle.serde_json.specs.Data.{Data, null}
use Rattle.json_value.specs.Read.{value_of}
use Rattle.json_span.specs.Quote.{quoted}
use Rattle.apiservice_rows.specs.Row.{Row}
use Rattle.apiservice_columns.specs.Cells.{service_cell, available_cell}
use Rattle.service_tables.specs.Ages.{age_cell}
use Rattle.service_tables.specs.Objects.{object_text}
use Rattle.service_tables.specs.declared.include.IncludeObject.{IncludeObject}

abbrev pub two_cells : List ℕ → List ℕ → List ℕ
two_cells a b = quoted a ++ codes "," ++ quoted b

-- the cells of a row, in the order of the columns
unfoldable pub cells_text : List ℕ → List ℕ → List ℕ → List ℕ → List ℕ
cells_text name service available age = codes "[" ++ two_cells name service ++ codes "," ++ two_cells available age ++ codes "]"

-- a row: its cells, and what it carries of its object
unfoldable pub parts_text : List ℕ → List ℕ → List ℕ
parts_text cells object = codes "{\"cells\":" ++ cells ++ codes ",\"object\":" ++ object ++ codes "}"

-- the value of an object's text
abbrev pub object_of : Row → Data
object_of row = unwrap_or (value_of row.object) null

-- the cells of a row with that object, at a moment in microseconds since the start of 1970
abbrev pub cells_of : ℕ → Row → Data → List ℕ
cells_of now row d = cells_text row.name (service_cell row.service) (available_cell row.service d) (age_cell now d)

-- the row at that moment
unfoldable pub row_text : IncludeObject → ℕ → Row → List ℕ
row_text include now row = parts_text (cells_of now row (object_of row)) (object_text include (object_of row))

abbrev pub rows_text : IncludeObject → ℕ → List Row → List ℕ
rows_text include now rows = join_by (row_text include now) (codes ",") rows

-- the columns, as kube-aggregator has them
unfoldable pub columns_text : List ℕ
columns_text =
    codes "{\"name\":\"Name\",\"type\":\"string\",\"format\":\"name\",\"description\":\"The name of the APIService.\",\"priority\":0},"
    ++ codes "{\"name\":\"Service\",\"type\":\"string\",\"format\":\"\",\"description\":\"The reference to the service that hosts this API endpoint.\",\"priority\":0},"
    ++ codes "{\"name\":\"Available\",\"type\":\"string\",\"format\":\"\",\"description\":\"Whether this service is available.\",\"priority\":0},"
    ++ codes "{\"name\":\"Age\",\"type\":\"string\",\"format\":\"\",\"description\":\"How long ago the APIService was created.\",\"priority\":0}"

-- what stands before the rows
unfoldable pub head_text : List ℕ
head_text =
    codes "{\"kind\":\"Table\",\"apiVersion\":\"meta.k8s.io/v1\",\"metadata\":{},\"columnDefinitions\":[" ++ columns_text
    ++ codes "],\"rows\":["

-- the Table of these rows
unfoldable pub table_text : IncludeObject → ℕ → List Row → List ℕ
table_text include now rows = head_text ++ rows_text include now rows ++ codes "]}"
