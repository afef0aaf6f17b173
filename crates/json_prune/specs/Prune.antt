-- Values without the members at a path (Kubernetes, `audit.k8s.io/v1`, `omitManagedFields`; `meta/v1`, Table).
use Rattle.std.specs.Prelude.{ℕ, zero, suc, Bool, false, List, [], ◌∷◌, codes, bytes_eq, if◌then◌else◌}
use Rattle.json_span.specs.Value.{Value, token, array, object, Items, no_items, item, Members, no_members, member}
use Rattle.json_span.specs.Member.{in_quotes}

-- names, the outermost first
abbrev pub Path : Type 0
Path = List (List ℕ)

-- the members but those whose name is spelled so
abbrev pub dropped : List ℕ → Members → Members
dropped name no_members = no_members
dropped name (member n v ms) =
    if bytes_eq n (in_quotes name) then dropped name ms else member n v (dropped name ms)

-- the members, with `f` of each value whose name is spelled so
abbrev pub at_name : (Value → Value) → List ℕ → Members → Members
at_name f name no_members = no_members
at_name f name (member n v ms) =
    member n (if bytes_eq n (in_quotes name) then f v else v) (at_name f name ms)

-- the items, each changed by `f`
abbrev pub at_each : (Value → Value) → Items → Items
at_each f no_items = no_items
at_each f (item v vs) = item (f v) (at_each f vs)

-- all items of an array
abbrev pub star : List ℕ
star = codes "*"

-- the value without the members that a path's last name has, in all values that the names before it lead to
abbrev pub prune : Path → Value → Value
prune [] v = v
prune (name ∷ []) (token t) = token t
prune (name ∷ []) (array vs) = array vs
prune (name ∷ []) (object ms) = object (dropped name ms)
prune (name ∷ next ∷ path) (token t) = token t
prune (name ∷ next ∷ path) (array vs) =
    if bytes_eq star name then array (at_each (prune (next ∷ path)) vs) else array vs
prune (name ∷ next ∷ path) (object ms) = object (at_name (prune (next ∷ path)) name ms)

-- where an object has its managed fields
abbrev pub own_fields : Path
own_fields = codes "metadata" ∷ codes "managedFields" ∷ []

-- where the objects of a list have theirs
abbrev pub fields_of_items : Path
fields_of_items = codes "items" ∷ star ∷ own_fields

-- where the objects in a Table's rows have theirs
abbrev pub fields_of_rows : Path
fields_of_rows = codes "rows" ∷ star ∷ codes "object" ∷ own_fields

-- a token that is spelled so
abbrev pub is_token : List ℕ → Value → Bool
is_token text (token t) = bytes_eq t text
is_token text (array vs) = false
is_token text (object ms) = false

-- the first member `kind` says so
abbrev pub says_table : Members → Bool
says_table no_members = false
says_table (member n v ms) =
    if bytes_eq n (in_quotes (codes "kind")) then is_token (in_quotes (codes "Table")) v else says_table ms

-- an object that says that it is a Table
abbrev pub is_table : Value → Bool
is_table (token t) = false
is_table (array vs) = false
is_table (object ms) = says_table ms

-- the value without the managed fields of its rows, where it is a Table
abbrev pub rows_pruned : Value → Value
rows_pruned v = if is_table v then prune fields_of_rows v else v

-- the value without managed fields: its own, those of its items, and those of a Table's rows
unfoldable pub managed : Value → Value
managed v = prune fields_of_items (prune own_fields (rows_pruned v))

-- the members with one more, at the k-th place or the last
abbrev pub put_at : ℕ → List ℕ → Value → Members → Members
put_at zero n x ms = member n x ms
put_at (suc k) n x no_members = member n x no_members
put_at (suc k) n x (member m v ms) = member m v (put_at k n x ms)

-- the value with one more member of a path's last name, wherever the path leads to an object
abbrev pub with_member : Path → ℕ → Value → Value → Value
with_member [] k x v = v
with_member (name ∷ []) k x (token t) = token t
with_member (name ∷ []) k x (array vs) = array vs
with_member (name ∷ []) k x (object ms) = object (put_at k (in_quotes name) x ms)
with_member (name ∷ next ∷ path) k x (token t) = token t
with_member (name ∷ next ∷ path) k x (array vs) =
    if bytes_eq star name then array (at_each (with_member (next ∷ path) k x) vs) else array vs
with_member (name ∷ next ∷ path) k x (object ms) = object (at_name (with_member (next ∷ path) k x) name ms)
