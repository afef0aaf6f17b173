-- What an object of Kubernetes' API says of itself first (Kubernetes, "API Conventions", Types (Kinds)).
use Rattle.std.specs.Prelude.{ℕ, not, Bool, if◌then◌else◌, List, Option, Some, None, codes}
use Rattle.serde_json.specs.Data.{Data}
use Rattle.serde_json.specs.Written.{has_float}
use Rattle.json_value.specs.Members.{present, is_text}

-- a text; in a list it may be absent
abbrev pub is_head_text : Bool → List ℕ → Option Data → Bool
is_head_text in_list text None = in_list
is_head_text in_list text (Some d) = is_text text (Some d)

-- the first that isn't so, by its name: the kind, the version of its API, and that its numbers are all whole and fit 64
-- bits
unfoldable pub head_fault : Bool → List ℕ → List ℕ → Data → Option (List ℕ)
head_fault in_list kind version d =
    if not (is_head_text in_list kind (present (codes "kind") d)) then Some (codes "kind")
    else if not (is_head_text in_list version (present (codes "apiVersion") d)) then Some (codes "apiVersion")
    else if has_float d then Some (codes "number")
    else None
