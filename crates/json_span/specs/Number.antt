-- Numbers as they are spelled (RFC 8259, section 6).
use Rattle.std.specs.Prelude.{◌≡◌, ◌⊎◌, ℕ, List, [], ◌∷◌, ◌++◌, Bool, true, ◌==◌, ◌&&◌, ◌||◌, nat_le}

abbrev pub is_digit : ℕ → Bool
is_digit b = nat_le 48 b && nat_le b 57

abbrev pub is_nonzero_digit : ℕ → Bool
is_nonzero_digit b = nat_le 49 b && nat_le b 57

-- `e` or `E`
abbrev pub is_mark : ℕ → Bool
is_mark b = (b == 101) || (b == 69)

abbrev pub is_sign : ℕ → Bool
is_sign b = (b == 43) || (b == 45)

-- any digits, or none
abbrev pub AreDigits : List ℕ → Type 0
AreDigits [] = Unit {0}
AreDigits (d ∷ ds) = (is_digit d ≡ true) × AreDigits ds

-- at least one digit
abbrev pub IsDigits : List ℕ → Type 0
IsDigits [] = ⊥
IsDigits (d ∷ ds) = (is_digit d ≡ true) × AreDigits ds

-- `0` alone, or digits of which the first isn't `0`
abbrev pub IsWhole : List ℕ → Type 0
IsWhole [] = ⊥
IsWhole (d ∷ ds) = ((d ≡ 48) × (ds ≡ [])) ⊎ ((is_nonzero_digit d ≡ true) × AreDigits ds)

-- nothing, or a minus
abbrev pub IsMinus : List ℕ → Type 0
IsMinus sign = (sign ≡ []) ⊎ (sign ≡ 45 ∷ [])

-- nothing, or a point and digits
abbrev pub IsFraction : List ℕ → Type 0
IsFraction [] = Unit {0}
IsFraction (p ∷ ds) = (p ≡ 46) × IsDigits ds

-- digits, with or without a sign before them
abbrev pub IsPower : List ℕ → Type 0
IsPower [] = ⊥
IsPower (b ∷ bs) = IsDigits (b ∷ bs) ⊎ (is_sign b ≡ true) × IsDigits bs

-- nothing, or an `e` and a power
abbrev pub IsExponent : List ℕ → Type 0
IsExponent [] = Unit {0}
IsExponent (e ∷ bs) = (is_mark e ≡ true) × IsPower bs

pub record IsNumber (text : List ℕ) : Type 0 where
  pub minus : List ℕ
  pub whole : List ℕ
  pub fraction : List ℕ
  pub exponent : List ℕ
  pub is : text ≡ minus ++ (whole ++ (fraction ++ exponent))
  pub is_minus : IsMinus minus
  pub is_whole : IsWhole whole
  pub is_fraction : IsFraction fraction
  pub is_exponent : IsExponent exponent
