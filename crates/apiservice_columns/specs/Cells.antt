-- What the columns of an APIService say (kube-aggregator, `pkg/registry/apiservice/etcd`: ConvertToTable; `pkg/apiserver`: a local
-- APIService always has the condition `Available`).
use Rattle.std.specs.Prelude.{ℕ, ◌||◌, ◌==◌, List, [], ◌∷◌, ◌++◌, length, codes, Option, Some, None, option_and_then, unwrap_or, if◌then◌else◌}
use Rattle.std.specs.Str.{bytes_eq}
use Rattle.serde_json.specs.Data.{Data, Items, no_items, item}
use Rattle.serde_json.specs.Find.{as_array}
use Rattle.json_value.specs.Members.{present, inner, text_in, is_text}
use Rattle.apiservice_rows.specs.declared.service.ServiceRef.{ServiceRef}

-- the service that answers, by its namespace and its name; the cluster's own API server is local
unfoldable pub service_cell : Option ServiceRef → List ℕ
service_cell None = codes "Local"
service_cell (Some s) = s.namespace ++ 47 ∷ s.name

-- a status, and its reason where it isn't True and one is told
unfoldable pub told : List ℕ → List ℕ → List ℕ
told status reason =
    if bytes_eq status (codes "True") || (length reason == 0) then status
    else status ++ (codes " (" ++ (reason ++ codes ")"))

-- the text that a condition has by that name, empty where it has none
abbrev pub text_of : List ℕ → Data → List ℕ
text_of name d = unwrap_or (text_in (present name d)) []

unfoldable pub condition_cell : Data → List ℕ
condition_cell d = told (text_of (codes "status") d) (text_of (codes "reason") d)

-- the first condition of type `Available` tells it
abbrev pub available_in : Items → List ℕ
available_in no_items = codes "Unknown"
available_in (item d ds) =
    if is_text (codes "Available") (present (codes "type") d) then condition_cell d else available_in ds

abbrev pub available_by : Option Items → List ℕ
available_by None = codes "Unknown"
available_by (Some conditions) = available_in conditions

-- what the conditions of an object say
abbrev pub conditions_cell : Data → List ℕ
conditions_cell d = available_by (option_and_then as_array (inner (codes "status") (codes "conditions") d))

-- whether an APIService is available: the cluster's own API server is, and of a service the object says it
unfoldable pub available_cell : Option ServiceRef → Data → List ℕ
available_cell None d = codes "True"
available_cell (Some s) d = conditions_cell d
