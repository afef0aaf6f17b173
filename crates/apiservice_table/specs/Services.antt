-- The objects of rows as they are served (Kubernetes, "API conventions": lists).
use Rattle.std.specs.Prelude.{ℕ, List, ◌++◌, Option, codes, option_map}
use Rattle.std.specs.List.{join_by}
use Rattle.apiservice_rows.specs.Row.{Row}
use Rattle.apiservice_table.specs.Table.{row_named}

-- the objects of all rows, with commas between them
abbrev pub objects : List Row → List ℕ
objects rows = join_by (λ (row : Row). row.object) (codes ",") rows

-- the list of all objects
unfoldable pub service_list_text : List Row → List ℕ
service_list_text rows =
    codes "{\"kind\":\"APIServiceList\",\"apiVersion\":\"apiregistration.k8s.io/v1\",\"metadata\":{},\"items\":["
    ++ objects rows ++ codes "]}"

-- the object of the row of that name
abbrev pub object_named : List ℕ → List Row → Option (List ℕ)
object_named name rows = option_map (λ (row : Row). row.object) (row_named name rows)
