-- How a text is written as a string (RFC 8259, section 7).
use Rattle.std.specs.Prelude.{ℕ, ◌+◌, ◌/◌, ◌%◌, ◌==◌, nat_le, nat_lt, Bool, ◌&&◌, not, if◌then◌else◌}
use Rattle.std.specs.Prelude.{List, [], ◌∷◌, ◌++◌, codes, flat_map, Option, Some, None}

-- a hexadecimal digit in lower case
abbrev pub hex_digit : ℕ → ℕ
hex_digit n = if nat_lt n 10 then 48 + n else 87 + n

-- the letter after the backslash of a short escape
abbrev pub short_escape : ℕ → Option ℕ
short_escape b =
    if b == 34 then Some 34 else if b == 92 then Some 92 else if b == 8 then Some 98 else if b == 9 then Some 116
    else if b == 10 then Some 110 else if b == 12 then Some 102 else if b == 13 then Some 114 else None

-- a control character by its number
abbrev pub unless_control : ℕ → List ℕ
unless_control b = if nat_lt b 32 then codes "\\u00" ++ (hex_digit (b / 16) ∷ hex_digit (b % 16) ∷ []) else b ∷ []

abbrev pub escape_or : Option ℕ → List ℕ → List ℕ
escape_or (Some letter) other = 92 ∷ letter ∷ []
escape_or None other = other

-- a byte, or the escape that stands for it
abbrev pub escaped : ℕ → List ℕ
escaped b = escape_or (short_escape b) (unless_control b)

-- a byte that stands for itself
abbrev pub stands_for_itself : ℕ → Bool
stands_for_itself b = nat_le 32 b && (not (b == 34) && not (b == 92))

abbrev pub quoted : List ℕ → List ℕ
quoted text = 34 ∷ (flat_map escaped text ++ 34 ∷ [])
