-- A path without the slashes at its ends.
use Rattle.std.specs.Prelude.{ℕ, ◌==◌, List, [], ◌∷◌, if◌then◌else◌}

-- the text from its first byte on that is no slash
unfoldable pub without_start : List ℕ → List ℕ
without_start [] = []
without_start (b ∷ text) = if b == 47 then without_start text else b ∷ text

-- a byte before a text; a slash alone is nothing
abbrev pub before : ℕ → List ℕ → List ℕ
before b [] = if b == 47 then [] else b ∷ []
before b (next ∷ text) = b ∷ next ∷ text

-- the text up to its last byte that is no slash
unfoldable pub without_end : List ℕ → List ℕ
without_end [] = []
without_end (b ∷ text) = before b (without_end text)

abbrev pub trimmed : List ℕ → List ℕ
trimmed path = without_end (without_start path)
