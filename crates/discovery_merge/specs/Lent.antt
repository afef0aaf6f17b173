-- Groups while their rows are borrowed.
use Rattle.std.specs.Prelude.{ℕ, List, [], ◌∷◌, map, Option, Some, None, option_map, Vec}
use Rattle.std.specs.Borrow.{Bor}
use Rattle.std.specs.BTreeMap.{BTreeMap, get_by}
use Rattle.std.specs.Cmp.Lexicographic.{slice_cmp}
use Rattle.std.specs.Ordering.{nat_cmp}
use Rattle.apiservice_rows.specs.Row.{Row}
use Rattle.discovery_merge.specs.Order.{preference_order, sorted}
use Rattle.discovery_merge.specs.declared.groups.Group.{Group}
use Rattle.discovery_merge.specs.declared.lent.LentGroup.{LentGroup}

-- borrowed rows, and the versions that they have
abbrev pub lent_rows : List (Bor Row) → List Row
lent_rows rows = map (λ r. r.now) rows

abbrev pub lent_versions : List (Bor Row) → List (List ℕ)
lent_versions rows = map (λ r. r.version) (lent_rows rows)

-- the group that borrowed rows tell
abbrev pub lent_view : LentGroup → Group
lent_view g = record { name = g.name.now; versions = lent_versions g.rows.items }

-- a group of that name and those rows
abbrev pub told : List ℕ → List Row → Group
told name rows = record { name = name; versions = map (λ r. r.version) (sorted preference_order rows) }

-- the rows that a tree has for a name
abbrev pub rows_for : {A : Type 0} → List ℕ → BTreeMap (Bor (List ℕ)) (Vec (Bor Row) A) → Option (List Row)
rows_for name by_group = option_map (λ v. lent_rows v.items) (get_by (λ k. slice_cmp nat_cmp name k.now) by_group)

-- a tree has no empty lists
abbrev pub unless_empty : List Row → Option (List Row)
unless_empty [] = None
unless_empty (r ∷ rows) = Some (r ∷ rows)
