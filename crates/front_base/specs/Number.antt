-- Numbers in decimal digits.
use Rattle.std.specs.Prelude.{ℕ, ◌+◌, ◌^◌, ◌==◌, nat_lt, ◌&&◌, Bool, false, if◌then◌else◌, List, [], ◌∷◌, length, Option, Some, None}
use Rattle.std.specs.Str.{all_ascii_digits}
use Rattle.std.specs.Str.Parse.{digits_value}

-- one digit or more, and nothing else
abbrev pub is_number : List ℕ → Bool
is_number text = nat_lt 0 (length text) && all_ascii_digits text

-- the number that digits spell, where it fits 64 bits
unfoldable pub number_of : List ℕ → Option ℕ
number_of text =
    if is_number text && nat_lt (digits_value 10 text) (2 ^ 64) then Some (digits_value 10 text)
    else None

-- a zero in front of further digits
abbrev pub has_leading_zero : List ℕ → Bool
has_leading_zero [] = false
has_leading_zero (c ∷ rest) = c == 48 && nat_lt 0 (length rest)

abbrev pub at_most : ℕ → Option ℕ → Option ℕ
at_most most None = None
at_most most (Some n) = if nat_lt n (most + 1) then Some n else None

-- the number that digits without a leading zero spell, where it is at most that
unfoldable pub plain_number_of : ℕ → List ℕ → Option ℕ
plain_number_of most text = if has_leading_zero text then None else at_most most (number_of text)
