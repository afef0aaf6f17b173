-- Two paths at once, for private clauses.
use Rattle.std.specs.Prelude.{◌≡◌, ℕ, suc, ◌+◌, ◌-◌, ◌==◌, List, [], ◌∷◌, ◌++◌, length, take, drop, bytes_eq, Option, Some, None, if◌then◌else◌}
use Rattle.json_span.specs.Value.{Value, Items, Members, no_members, member}
use Rattle.json_span.specs.Member.{in_quotes}
use Rattle.json_prune.specs.Prune.{Path, prune, at_each, star}
use Rattle.json_prune.specs.declared.copied.Copied.{Copied}

-- the bytes of a path's first name
abbrev pub name_size : List ℕ → ℕ
name_size [] = 0
name_size (b ∷ bs) = if b == 47 then 0 else suc (name_size bs)

-- what is left of a path behind a name; None where that is its last
abbrev pub behind_name : Path → List ℕ → Option Path
behind_name [] n = Some []
behind_name (name ∷ []) n = if bytes_eq n name then None else Some []
behind_name (name ∷ next ∷ path) n = if bytes_eq n name then Some (next ∷ path) else Some []

-- what is left of it for the value of a member with this name's token; None where the member is dropped
abbrev pub into_member : Path → List ℕ → Option Path
into_member [] n = Some []
into_member (name ∷ []) n = if bytes_eq n (in_quotes name) then None else Some []
into_member (name ∷ next ∷ path) n = if bytes_eq n (in_quotes name) then Some (next ∷ path) else Some []

-- what is left of it for the items of an array
abbrev pub into_items : Path → Path
into_items [] = []
into_items (name ∷ []) = []
into_items (name ∷ next ∷ path) = if bytes_eq star name then next ∷ path else []

abbrev pub if_both : Option Path → Option Path → Option (Path × Path)
if_both None q = None
if_both (Some p) None = None
if_both (Some p) (Some q) = Some (p, q)

abbrev pub prune_both : Path → Path → Value → Value
prune_both p q v = prune q (prune p v)

-- a member, unless it is dropped
abbrev pub member_if : Option (Path × Path) → List ℕ → Value → Members → Members
member_if None n v ms = ms
member_if (Some paths) n v ms = member n (prune_both paths.0 paths.1 v) ms

-- the members that both paths leave
abbrev pub members_left : Path → Path → Members → Members
members_left p q no_members = no_members
members_left p q (member n v ms) = member_if (if_both (into_member p n) (into_member q n)) n v (members_left p q ms)

abbrev pub items_left : Path → Path → Items → Items
items_left p q vs = at_each (prune_both (into_items p) (into_items q)) vs

-- what is copied of a text up to a byte, where the range that began at `from` isn't copied yet
abbrev pub written : List ℕ → List ℕ → ℕ → ℕ → List ℕ
written text out from at = out ++ take (at - from) (drop from text)

-- from one byte to another these bytes were passed, and those were copied
abbrev pub Copies : List ℕ → ℕ → ℕ → Copied → Copied → List ℕ → List ℕ → Type 0
Copies text at end old new these those =
    (end ≡ at + length these) × (written text new.out.items new.from end ≡ written text old.out.items old.from at ++ those)
