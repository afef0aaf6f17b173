-- The parts of a path.
use Rattle.std.specs.Prelude.{◌≢◌, ℕ, ◌==◌, List, [], ◌∷◌, ◌++◌, length, map, if◌then◌else◌}
use Rattle.std.specs.Borrow.{Bor}
use Rattle.std.specs.List.{All, slice_split}

-- the parts from the first on that isn't empty
unfoldable pub from_first : List (List ℕ) → List (List ℕ)
from_first [] = []
from_first (part ∷ parts) = if length part == 0 then from_first parts else part ∷ parts

-- a part before others; an empty one alone is none
abbrev pub in_front : List ℕ → List (List ℕ) → List (List ℕ)
in_front part [] = if length part == 0 then [] else part ∷ []
in_front part (next ∷ parts) = part ∷ next ∷ parts

-- the parts up to the last that isn't empty
unfoldable pub to_last : List (List ℕ) → List (List ℕ)
to_last [] = []
to_last (part ∷ parts) = in_front part (to_last parts)

-- the parts between the slashes of a path, slashes at its ends apart
unfoldable pub parts_of : List ℕ → List (List ℕ)
parts_of path = to_last (from_first (slice_split (λ b. b == 47) path))

-- the texts of borrowed parts
abbrev pub texts_of : List (Bor (List ℕ)) → List (List ℕ)
texts_of parts = map (λ part. part.now) parts

-- parts as a path: each after a slash
abbrev pub path_with : List (List ℕ) → List ℕ
path_with [] = []
path_with (part ∷ parts) = 47 ∷ (part ++ path_with parts)

-- a part that is not empty and has no slash
abbrev pub IsPart : List ℕ → Type 0
IsPart part = (part ≢ []) × All (λ b. b ≢ 47) part
