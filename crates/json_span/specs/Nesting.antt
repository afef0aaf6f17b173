-- The kinds of what is open, innermost first.
use Rattle.std.specs.Prelude.{ℕ, zero, suc, ◌%◌, ◌/◌, ◌==◌, Bool, true, false, List, [], ◌∷◌, Option, Some, None, if◌then◌else◌}
use Rattle.json_span.specs.declared.nesting.Kind.{Kind}
use Rattle.json_span.specs.declared.nesting.Kind.TheVariants as kind

-- an even number is an array's
abbrev pub kind_of : ℕ → Kind
kind_of bits = if bits % 2 == 0 then kind.Array else kind.Object

-- so many bits of a number, the lowest first
abbrev pub kinds_of : ℕ → ℕ → List Kind
kinds_of zero bits = []
kinds_of (suc n) bits = kind_of bits ∷ kinds_of n (bits / 2)

abbrev pub is_empty : List Kind → Bool
is_empty [] = true
is_empty (k ∷ kinds) = false

abbrev pub innermost : List Kind → Option Kind
innermost [] = None
innermost (k ∷ kinds) = Some k

abbrev pub without_innermost : List Kind → List Kind
without_innermost [] = []
without_innermost (k ∷ kinds) = kinds
