-- The names of a path that is written as a text.
use Rattle.std.specs.Prelude.{ℕ, ◌==◌, nat_le, List, [], ◌∷◌, length, drop, if◌then◌else◌}
use Rattle.json_prune.specs.Prune.{Path}

-- a byte before the first name
abbrev pub before_first : ℕ → Path → Path
before_first b [] = (b ∷ []) ∷ []
before_first b (name ∷ names) = (b ∷ name) ∷ names

-- what `/` separates
abbrev pub split : List ℕ → Path
split [] = [] ∷ []
split (b ∷ bs) = if b == 47 then [] ∷ split bs else before_first b (split bs)

-- the empty text is the empty path
abbrev pub names : List ℕ → Path
names [] = []
names (b ∷ bs) = split (b ∷ bs)

-- the names from a byte on; none past the end
abbrev pub names_from : List ℕ → ℕ → Path
names_from path from = if nat_le from (length path) then split (drop from path) else []
