-- How a group version is named (Kubernetes, "API groups and versioning").
use Rattle.std.specs.Prelude.{ℕ, List, [], ◌∷◌, ◌++◌, codes}
use Rattle.apiservice_rows.specs.Row.{Row}

-- the group and the version as documents name them: the core group has the one version v1
abbrev pub group_version : List ℕ → List ℕ → List ℕ
group_version [] version = codes "v1"
group_version (g ∷ group) version = (g ∷ group) ++ 47 ∷ version

abbrev pub version_of : Row → List ℕ
version_of row = group_version row.group row.version
