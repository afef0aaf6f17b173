-- Where a member's value stands in the compact text of an object.
use Rattle.std.specs.Prelude.{ℕ, ◌+◌, List, [], ◌∷◌, ◌++◌, length, bytes_eq, Option, Some, None, if◌then◌else◌}
use Rattle.json_span.specs.Value.{Value, token, array, object, Members, no_members, member, flat}

abbrev pub in_quotes : List ℕ → List ℕ
in_quotes name = 34 ∷ (name ++ 34 ∷ [])

-- the first member whose name is spelled so, where the first of these begins at the byte `at`
abbrev pub span_from : ℕ → List ℕ → Members → Option (ℕ × ℕ)
span_from at name no_members = None
span_from at name (member n v ms) =
    if bytes_eq n (in_quotes name) then Some (at + length n + 1, at + length n + 1 + length (flat v))
    else span_from (at + length n + 1 + length (flat v) + 1) name ms

-- from the first byte of the value to the one after it
abbrev pub member_span : List ℕ → Value → Option (ℕ × ℕ)
member_span name (token t) = None
member_span name (array vs) = None
member_span name (object ms) = span_from 1 name ms
