-- Percent-decoding as a relation of what is spelled and what it spells (RFC 3986, section 2.1).
use Rattle.std.specs.Prelude.{◌≡◌, ◌≢◌, ℕ, ◌+◌, ◌*◌, ◌<◌, ◌≤◌, ◌⊎◌, List, [], ◌∷◌, ◌++◌}

-- the byte of a hexadecimal digit in either case, and its value
abbrev pub IsHexDigit : ℕ → ℕ → Type 0
IsHexDigit c value =
    ((value < 10) × (c ≡ 48 + value))
    ⊎ ((10 ≤ value) × (value < 16) × ((c ≡ 55 + value) ⊎ (c ≡ 87 + value)))

-- how a byte may be spelled: as itself, unless it is a percent sign, or as a percent sign and two hexadecimal digits
abbrev pub SpellsByte : ℕ → List ℕ → Type 0
SpellsByte b piece =
    ((b ≢ 37) × (piece ≡ b ∷ []))
    ⊎ ((c d high low : ℕ) × IsHexDigit c high × IsHexDigit d low × (b ≡ 16 * high + low) × (piece ≡ 37 ∷ c ∷ d ∷ []))

-- how bytes may be spelled, one after the other
abbrev pub Spells : List ℕ → List ℕ → Type 0
Spells [] text = text ≡ []
Spells (b ∷ bytes) text = (piece rest : List ℕ) × (text ≡ piece ++ rest) × SpellsByte b piece × Spells bytes rest
