-- By which API a path is served (Kubernetes, "API Aggregation Layer").
use Rattle.std.specs.Prelude.{ℕ, List, [], ◌∷◌, Option, Some, None, codes, bytes_eq, if◌then◌else◌}
use Rattle.request_info.specs.Parts.{parts_of}
use Rattle.audit_core.specs.declared.route.Route as code_route

-- the group and the version of an API
pub record Route : Type 0 where
  pub group : List ℕ
  pub version : List ℕ

-- `apis/GROUP/VERSION`, and anything after it
abbrev pub group_route : List (List ℕ) → Option Route
group_route (group ∷ version ∷ parts) = Some (record { group = group; version = version })
group_route _ = None

-- everything below `api` is the core API's
abbrev pub core_route : Route
core_route = record { group = []; version = codes "v1" }

-- by the parts of a path; other paths lead to no API
abbrev pub route_by : List (List ℕ) → Option Route
route_by [] = None
route_by (root ∷ parts) =
    if bytes_eq root (codes "api") then Some core_route
    else if bytes_eq root (codes "apis") then group_route parts
    else None

-- the API that serves a decoded path
abbrev pub route_of : List ℕ → Option Route
route_of path = route_by (parts_of path)

-- what a value of the code says
abbrev pub route_view : code_route.Route → Route
route_view route = record { group = route.group.now; version = route.version.now }
