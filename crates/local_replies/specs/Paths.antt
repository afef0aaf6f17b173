-- Which paths are local (Kubernetes, "Kubernetes API health endpoints", "API discovery", and the API of APIServices).
use Rattle.std.specs.Prelude.{ℕ, ◌==◌, Bool, true, false, List, [], ◌∷◌, codes, bytes_eq, Option, Some, None, if◌then◌else◌}
use Rattle.front_base.specs.Ends.{trimmed}
use Rattle.local_replies.specs.declared.local.Local.{Local}
use Rattle.local_replies.specs.declared.local.Local.TheVariants.{Health, GroupList, OneGroup, ResourceList, AllServices, OneService, Unserved}

-- what a text has after a prefix, where it begins with it
unfoldable pub behind : List ℕ → List ℕ → Option (List ℕ)
behind [] text = Some text
behind (x ∷ front) [] = None
behind (x ∷ front) (b ∷ text) = if x == b then behind front text else None

abbrev pub has_slash : List ℕ → Bool
has_slash [] = false
has_slash (b ∷ text) = if b == 47 then true else has_slash text

-- a text of one part of a path
abbrev pub one_part : (List ℕ → Local) → Option (List ℕ) → Option Local
one_part local (Some (b ∷ text)) = if has_slash (b ∷ text) then None else Some (local (b ∷ text))
one_part local _ = None

-- a text of one byte or more
abbrev pub any_text : Local → Option (List ℕ) → Option Local
any_text local (Some (b ∷ text)) = Some local
any_text local _ = None

-- a row of the table says which local path a text is, if it is one of the row's
abbrev pub Row : Type 0
Row = List ℕ → Option Local

-- that text
abbrev pub exactly : List ℕ → Local → Row
exactly name local text = if bytes_eq text name then Some local else None

-- that text, and after it one part more, which isn't empty
abbrev pub with_part : List ℕ → (List ℕ → Local) → Row
with_part front local text = one_part local (behind front text)

-- that text, and anything after it
abbrev pub with_rest : List ℕ → Local → Row
with_rest front local text = any_text local (behind front text)

-- an answer, or else what other rows say
abbrev pub or_else : Option Local → Option Local → Option Local
or_else None other = other
or_else (Some local) other = Some local

-- what the first row says that knows the text
abbrev pub first_of : List Row → Row
first_of [] text = None
first_of (row ∷ rows) text = or_else (row text) (first_of rows text)

abbrev pub table : List Row
table =
    exactly (codes "healthz") Health
    ∷ exactly (codes "livez") Health
    ∷ exactly (codes "readyz") Health
    ∷ exactly (codes "apis") GroupList
    ∷ with_part (codes "apis/") OneGroup
    ∷ exactly (codes "apis/apiregistration.k8s.io/v1") ResourceList
    ∷ exactly (codes "apis/apiregistration.k8s.io/v1/apiservices") AllServices
    ∷ with_part (codes "apis/apiregistration.k8s.io/v1/apiservices/") OneService
    ∷ with_rest (codes "apis/apiregistration.k8s.io/v1/") Unserved
    ∷ []

-- the local path that a path is, slashes at its ends apart
unfoldable pub local_of : List ℕ → Option Local
local_of path = first_of table (trimmed path)
