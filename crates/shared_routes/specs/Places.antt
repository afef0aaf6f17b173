-- Changes of one's own, by their places.
use Rattle.std.specs.Prelude.{ℕ, ◌&&◌, nat_lt, Bool, true, List, [], ◌∷◌, Option, Some, None, slice_get}
use Rattle.apiservice_table.specs.declared.change.Change.{Change}

-- each place is among so many
abbrev pub are_below : ℕ → List ℕ → Bool
are_below n [] = true
are_below n (place ∷ places) = nat_lt place n && are_below n places

-- a change before others, where there is one
abbrev pub with_change : ℕ → Option Change → List (ℕ × Change) → List (ℕ × Change)
with_change place None others = others
with_change place (Some change) others = (place, change) ∷ others

-- the changes at these places, each with its place
abbrev pub changes_at : List ℕ → List Change → List (ℕ × Change)
changes_at [] seen = []
changes_at (place ∷ places) seen = with_change place (slice_get seen place) (changes_at places seen)
