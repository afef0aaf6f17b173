-- Blanks and strings as they are spelled (RFC 8259, sections 2 and 7), in UTF-8 (section 8.1).
use Rattle.std.specs.Prelude.{◌≡◌, ◌⊎◌, ℕ, List, [], ◌∷◌, ◌++◌, Bool, true, not, ◌==◌, ◌||◌, ◌&&◌, nat_le, flat_map}

-- space, tab, line feed or carriage return
abbrev pub is_blank : ℕ → Bool
is_blank b = (b == 32) || (b == 9) || (b == 10) || (b == 13)

abbrev pub AreBlanks : List ℕ → Type 0
AreBlanks [] = Unit {0}
AreBlanks (b ∷ bs) = (is_blank b ≡ true) × AreBlanks bs

abbrev pub is_hex : ℕ → Bool
is_hex b = (nat_le 48 b && nat_le b 57) || (nat_le 65 b && nat_le b 70) || (nat_le 97 b && nat_le b 102)

-- what may follow a backslash, `u` aside
abbrev pub is_short_escape : ℕ → Bool
is_short_escape b =
    (b == 34) || (b == 92) || (b == 47) || (b == 98) || (b == 102) || (b == 110) || (b == 114) || (b == 116)

-- a character of ASCII that stands for itself: no quotation mark, backslash or control character
abbrev pub is_plain : ℕ → Bool
is_plain b = nat_le 32 b && (nat_le b 127 && not ((b == 34) || (b == 92)))

abbrev pub is : ℕ → ℕ → Bool
is a b = b == a

abbrev pub within : ℕ → ℕ → ℕ → Bool
within low high b = nat_le low b && nat_le b high

-- each byte passes its own test, and there are as many bytes as tests
abbrev pub Meets : List (ℕ → Bool) → List ℕ → Type 0
Meets [] [] = Unit {0}
Meets [] (b ∷ bs) = ⊥
Meets (p ∷ ps) [] = ⊥
Meets (p ∷ ps) (b ∷ bs) = (p b ≡ true) × Meets ps bs

-- a byte of a character in UTF-8 after its first
abbrev pub tail : ℕ → Bool
tail = within 128 191

-- what may stand between the marks of a string: a character of ASCII, a short escape, an escape of four digits, and the
-- characters of UTF-8 by its own table (RFC 3629, section 4)
abbrev pub shapes : List (List (ℕ → Bool))
shapes =
    (is_plain ∷ [])
    ∷ (is 92 ∷ is_short_escape ∷ [])
    ∷ (is 92 ∷ is 117 ∷ is_hex ∷ is_hex ∷ is_hex ∷ is_hex ∷ [])
    ∷ (within 194 223 ∷ tail ∷ [])
    ∷ (is 224 ∷ within 160 191 ∷ tail ∷ [])
    ∷ (within 225 236 ∷ tail ∷ tail ∷ [])
    ∷ (is 237 ∷ within 128 159 ∷ tail ∷ [])
    ∷ (within 238 239 ∷ tail ∷ tail ∷ [])
    ∷ (is 240 ∷ within 144 191 ∷ tail ∷ tail ∷ [])
    ∷ (within 241 243 ∷ tail ∷ tail ∷ tail ∷ [])
    ∷ (is 244 ∷ within 128 143 ∷ tail ∷ tail ∷ [])
    ∷ []

-- the bytes have one of these shapes
abbrev pub MeetsOne : List (List (ℕ → Bool)) → List ℕ → Type 0
MeetsOne [] bytes = ⊥
MeetsOne (shape ∷ others) bytes = Meets shape bytes ⊎ MeetsOne others bytes

-- each piece is a character or an escape
abbrev pub ArePieces : List (List ℕ) → Type 0
ArePieces [] = Unit {0}
ArePieces (p ∷ ps) = MeetsOne shapes p × ArePieces ps

-- characters and escapes between quotation marks
abbrev pub IsString : List ℕ → Type 0
IsString text = (pieces : List (List ℕ)) × ArePieces pieces × (text ≡ 34 ∷ (flat_map (λ p. p) pieces ++ 34 ∷ []))
