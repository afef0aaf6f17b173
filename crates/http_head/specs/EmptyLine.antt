-- The first empty line of a stream, said without a search (RFC 9112, section 2.1: an empty line ends a head; section 2.2:
-- empty lines before the request line are skipped, and a line may end in LF alone).
use Rattle.std.specs.Prelude.{◌≡◌, ◌≢◌, ℕ, ◌+◌, ◌≤◌, ◌⊎◌, List, [], ◌∷◌, ◌++◌, length}
use Rattle.std.specs.List.{All}

-- CR or LF
abbrev pub IsLineByte : ℕ → Type 0
IsLineByte b = (b ≡ 13) ⊎ (b ≡ 10)

-- LF, or CR LF
abbrev pub IsLineEnd : List ℕ → Type 0
IsLineEnd end = (end ≡ 10 ∷ []) ⊎ (end ≡ 13 ∷ 10 ∷ [])

-- an empty line ends after so many bytes: bytes that are skipped, a first byte of text, more of it up to an LF, and right
-- after that the end of the next line
pub record EndsEmptyLine (bytes : List ℕ) (len : ℕ) : Type 0 where
  pub skipped : List ℕ
  pub first : ℕ
  pub text : List ℕ
  pub empty : List ℕ
  pub after : List ℕ
  pub are : bytes ≡ skipped ++ (first ∷ (text ++ (10 ∷ (empty ++ after))))
  pub blank : All IsLineByte skipped
  pub begins : (first ≢ 13) × (first ≢ 10)
  pub ends : IsLineEnd empty
  pub size : len ≡ length skipped + (length text + (length empty + 2))

-- it is the first one
pub record EndsFirstEmptyLine (bytes : List ℕ) (len : ℕ) : Type 0 where
  pub here : EndsEmptyLine bytes len
  pub first : (other : ℕ) → EndsEmptyLine bytes other → len ≤ other
