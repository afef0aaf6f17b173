-- The order of versions (Kubernetes, "Versions in CustomResourceDefinitions", version priority).
use Rattle.std.specs.Prelude.{ℕ, ◌==◌, not, if◌then◌else◌, List, [], ◌∷◌, length, take, drop, Option, Some, None, codes}
use Rattle.std.specs.Char.{is_ascii_digit}
use Rattle.std.specs.declared.cmp.Ordering.{Ordering}
use Rattle.std.specs.Cmp.Lexicographic.{slice_cmp}
use Rattle.std.specs.List.{position_or_len, starts_with}
use Rattle.std.specs.Ordering.{nat_cmp, on, then_cmp, flip_args}
use Rattle.front_base.specs.Number.{number_of}
use Rattle.front_base.specs.declared.version.VersionKey.{VersionKey}
use Rattle.front_base.specs.declared.version.Maturity.{Maturity}
use Rattle.front_base.specs.declared.version.Maturity.TheVariants.{Stable, Beta, Alpha, Other}

-- a version that isn't of the form `v1`, `v1beta1` or `v1alpha1`
abbrev pub other_key : VersionKey
other_key = record { maturity = Other; major = 0; minor = 0 }

abbrev pub stable_key : Option ℕ → VersionKey
stable_key None = other_key
stable_key (Some major) = record { maturity = Stable; major = major; minor = 0 }

abbrev pub early_key : Maturity → Option ℕ → Option ℕ → VersionKey
early_key maturity None minor = other_key
early_key maturity (Some major) None = other_key
early_key maturity (Some major) (Some minor) = record { maturity = maturity; major = major; minor = minor }

-- what follows the first number
unfoldable pub tail_key : Option ℕ → List ℕ → VersionKey
tail_key major rest =
    if length rest == 0 then stable_key major
    else if starts_with (λ x y. x == y) rest (codes "alpha") then early_key Alpha major (number_of (drop 5 rest))
    else if starts_with (λ x y. x == y) rest (codes "beta") then early_key Beta major (number_of (drop 4 rest))
    else other_key

-- how many digits stand in front
abbrev pub digits_len : List ℕ → ℕ
digits_len text = position_or_len (λ b. not (is_ascii_digit b)) text

-- `v`, a number, and `alpha` or `beta` with a second number, or nothing
unfoldable pub key_of : List ℕ → VersionKey
key_of [] = other_key
key_of (c ∷ rest) =
    if c == 118 then tail_key (number_of (take (digits_len rest) rest)) (drop (digits_len rest) rest)
    else other_key

-- generally available before beta, that before alpha, and other texts last
abbrev pub rank : Maturity → ℕ
rank Stable = 0
rank Beta = 1
rank Alpha = 2
rank Other = 3

-- by maturity, then the greater first number first, then the greater second number first, then by text
abbrev pub version_order : List ℕ → List ℕ → Ordering
version_order =
    then_cmp (on (λ text. rank (key_of text).maturity) nat_cmp)
    (then_cmp (on (λ text. (key_of text).major) (flip_args nat_cmp))
    (then_cmp (on (λ text. (key_of text).minor) (flip_args nat_cmp))
    (slice_cmp nat_cmp)))
