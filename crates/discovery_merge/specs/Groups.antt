-- The API groups that rows make (Kubernetes, "Aggregated discovery" and "API groups and versioning").
use Rattle.std.specs.Prelude.{ℕ, ◌==◌, Bool, not, List, [], ◌∷◌, map, filter, length, bytes_eq}
use Rattle.apiservice_rows.specs.Row.{Row}
use Rattle.discovery_merge.specs.Order.{group_order, preference_order, sorted}
use Rattle.discovery_merge.specs.declared.groups.Group.{Group}

-- all but the core group have a name
abbrev pub is_named : Row → Bool
is_named r = not (length r.group == 0)

abbrev pub is_of : List ℕ → Row → Bool
is_of name r = bytes_eq r.group name

-- each name once, where it comes first
unfoldable pub once : List (List ℕ) → List (List ℕ)
once [] = []
once (name ∷ names) = name ∷ filter (λ other. not (bytes_eq name other)) (once names)

-- the rows of a group, the one to prefer first
abbrev pub rows_of : List ℕ → List Row → List Row
rows_of name rows = sorted preference_order (filter (is_of name) rows)

-- a group and its versions, the one to prefer first
abbrev pub group_of : List Row → List ℕ → Group
group_of rows name = record { name = name; versions = map (λ r. r.version) (rows_of name rows) }

-- the names of the groups but the core group's, each in the place of its group's first row
abbrev pub names_in_order : List Row → List (List ℕ)
names_in_order rows = once (map (λ r. r.group) (sorted group_order (filter is_named rows)))

-- the groups but the core group, whether their rows are available or not
abbrev pub sorted_groups : List Row → List Group
sorted_groups rows = map (group_of rows) (names_in_order rows)
