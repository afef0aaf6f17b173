-- What the rows of a Table carry of their objects (Kubernetes, `meta/v1`: TableOptions, IncludeObjectPolicy).
use Rattle.std.specs.Prelude.{ℕ, List, codes, Option, Some, None, bytes_eq, if◌then◌else◌}
use Rattle.service_tables.specs.declared.include.IncludeObject.{IncludeObject}
use Rattle.service_tables.specs.declared.include.IncludeObject.TheVariants as include

-- the policy of that name; the empty name counts as none
abbrev pub policy_named : List ℕ → Option IncludeObject
policy_named name =
    if bytes_eq name (codes "None") then Some include.None
    else if bytes_eq name (codes "Object") then Some include.Object
    else if bytes_eq name (codes "Metadata") then Some include.Metadata
    else if bytes_eq name (codes "") then Some include.Metadata
    else None

-- that which a query asks for by its first `includeObject`, and the metadata where it has none
abbrev pub include_object : Option (List ℕ) → Option IncludeObject
include_object None = Some include.Metadata
include_object (Some name) = policy_named name
