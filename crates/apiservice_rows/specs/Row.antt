-- A row: what routing knows of one APIService.
use Rattle.std.specs.Prelude.{◌≡◌, ℕ, ◌==◌, ◌||◌, Bool, false, List, [], ◌∷◌, ◌++◌, Option}
use Rattle.apiservice_rows.specs.declared.service.ServiceRef.{ServiceRef}

-- what contracts see of a row
pub record Row : Type 0 where
  pub name : List ℕ
  pub group : List ℕ
  pub version : List ℕ
  pub group_priority : ℕ
  pub version_priority : ℕ
  pub service : Option ServiceRef
  pub available : Bool
  pub object : List ℕ

abbrev pub has_dot : List ℕ → Bool
has_dot [] = false
has_dot (c ∷ rest) = c == 46 || has_dot rest

-- the name of an APIService: its version, a dot and its group (Kubernetes, "API Aggregation Layer")
abbrev pub own_name : List ℕ → List ℕ → List ℕ
own_name version group = version ++ 46 ∷ group

-- a name that tells the version and the group, since the version has no dot
abbrev pub IsRowName : List ℕ → List ℕ → List ℕ → Type 0
IsRowName name version group = (has_dot version ≡ false) × (name ≡ own_name version group)
