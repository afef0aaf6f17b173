-- The orders of discovery, and lists put in order.
use Rattle.std.specs.Prelude.{if◌then◌else◌, List, [], ◌∷◌}
use Rattle.std.specs.Cmp.Lexicographic.{slice_cmp}
use Rattle.std.specs.declared.cmp.Ordering.{Ordering}
use Rattle.std.specs.Ordering.{is_lt, nat_cmp, on, then_cmp, flip_args}
use Rattle.front_base.specs.Version.{version_order}
use Rattle.apiservice_rows.specs.Row.{Row}

-- by `groupPriorityMinimum`, the greatest first, then by the name of the object (Kubernetes, "APIService", spec)
abbrev pub group_order : Row → Row → Ordering
group_order =
    then_cmp (on (λ r. r.group_priority) (flip_args nat_cmp))
    (on (λ r. r.name) (slice_cmp nat_cmp))

-- by `versionPriority`, the greatest first, then by the order of versions (Kubernetes, "APIService", spec)
abbrev pub preference_order : Row → Row → Ordering
preference_order =
    then_cmp (on (λ r. r.version_priority) (flip_args nat_cmp))
    (on (λ r. r.version) version_order)

-- a list in order with one element more, in front of all that don't come before it
unfoldable pub put : {X : Type 0} → (X → X → Ordering) → X → List X → List X
put order x [] = x ∷ []
put order x (y ∷ ys) = if is_lt (order y x) then y ∷ put order x ys else x ∷ y ∷ ys

-- the elements in order; those that tie stay in the order in which they were
unfoldable pub sorted : {X : Type 0} → (X → X → Ordering) → List X → List X
sorted order [] = []
sorted order (x ∷ xs) = put order x (sorted order xs)
