-- The names of the levels (Kubernetes, "Auditing", audit policy).
use Rattle.std.specs.Prelude.{ℕ, List, Option, Some, codes, if◌then◌else◌}
use Rattle.std.specs.Prelude as prelude
use Rattle.std.specs.Str.{bytes_eq}
use Rattle.front_base.specs.declared.level.Level.{Level}
use Rattle.front_base.specs.declared.level.Level.TheVariants.{None, Metadata, Request, RequestResponse}

-- the name that policies and events spell
abbrev pub level_name : Level → List ℕ
level_name None = codes "None"
level_name Metadata = codes "Metadata"
level_name Request = codes "Request"
level_name RequestResponse = codes "RequestResponse"

-- the level of that name
unfoldable pub level_of : List ℕ → Option Level
level_of name =
    if bytes_eq name (codes "None") then Some None
    else if bytes_eq name (codes "Metadata") then Some Metadata
    else if bytes_eq name (codes "Request") then Some Request
    else if bytes_eq name (codes "RequestResponse") then Some RequestResponse
    else prelude.None
