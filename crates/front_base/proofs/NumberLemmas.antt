-- Numbers in decimal digits, as `parse` reads them.
use Rattle.std.proofs.Common.{◌≡◌, ℕ, ◌<◌, ◌^◌, Bool, true, false, List, [], ◌∷◌, length, Some, None, Result, Ok, Err, refl, arith, IsUtf8}
use Rattle.std.specs.Prelude.{nat_lt, ◌&&◌, if◌then◌else◌}
use Rattle.std.specs.Char.{is_ascii_digit}
use Rattle.std.proofs.lemmas.Bool.Decides.{Decides-ltb, nat_tests}
use Rattle.std.specs.Result.{result_ok, OkIff}
use Rattle.std.specs.Str.{all_ascii_digits, IsAscii}
use Rattle.std.specs.Str.Parse.{digits_value, ParsesUnsigned}
use Rattle.std.proofs.lemmas.Str.{IsUtf8-from_ascii}
use Rattle.std.proofs.lemmas.Str.Ascii.{IsAscii-nil, IsAscii-cons}
use Rattle.std.proofs.lemmas.Str.Parse.{IsNumeralModel, numerals_by_value, tells_all_ascii_digits, parse_digits}
use Rattle.front_base.specs.Number.{is_number, number_of}

own : IsNumeralModel (λ ds. all_ascii_digits ds ≡ true) (digits_value 10)
own = numerals_by_value _ tells_all_ascii_digits

pub both : (a b : Bool) → (a && b) ≡ true → (a ≡ true) × (b ≡ true)
both true b e = (refl, e)
both false b e = absurd (cc e)

digits_are : (text : List ℕ) → is_number text ≡ true → (0 < length text) × (all_ascii_digits text ≡ true)
digits_are text e =
    let h = both _ _ e in
    ((Decides-ltb 0 (length text)).0 h.0, h.1)

-- what `parse` answers of a number
pub parsed_is : {E : Type 0} (text : List ℕ) (r : Result ℕ E) → is_number text ≡ true → ParsesUnsigned 64 10 text r
    → result_ok r ≡ number_of text
unfolding number_of
parsed_is text r e h =
    let d = digits_are text e in
    rw e (by_cases r (parse_digits own 64 text r h d.1) d.0)
  where
    by_cases : {E : Type 0} (r : Result ℕ E) → OkIff r ((0 < length text) × (digits_value 10 text < 2 ^ 64)) (digits_value 10 text)
        → 0 < length text
        → result_ok r ≡ (if nat_lt (digits_value 10 text) (2 ^ 64) then Some (digits_value 10 text) else None)
    by_cases (Ok x) h _ = let e : nat_lt (digits_value 10 text) (2 ^ 64) ≡ true = grind (arith, h.0.1) in rw (e, h.1) refl
    by_cases (Err _) h some = let e : nat_lt (digits_value 10 text) (2 ^ 64) ≡ false = too_great (nat_lt (digits_value 10 text) (2 ^ 64)) refl in rw e refl
      where
        too_great : (b : Bool) → nat_lt (digits_value 10 text) (2 ^ 64) ≡ b → b ≡ false
        too_great true e = absurd (h (some, grind (arith, e)))
        too_great false e = refl

-- other texts are no numbers
pub no_number : (text : List ℕ) → is_number text ≡ false → number_of text ≡ None
unfolding number_of
no_number text e = rw e refl

ascii : (text : List ℕ) → all_ascii_digits text ≡ true → IsAscii text
ascii [] e = IsAscii-nil
ascii (c ∷ cs) e =
    let h = both (is_ascii_digit c) (all_ascii_digits cs) e in
    IsAscii-cons c cs (low c h.0) (ascii cs h.1)
  where
    low : (c : ℕ) → is_ascii_digit c ≡ true → c < 128
    low c h = grind (arith, nat_tests, h)

-- digits are text
pub digits_utf8 : (text : List ℕ) → is_number text ≡ true → IsUtf8 text
digits_utf8 text e = IsUtf8-from_ascii text (ascii text (digits_are text e).1)
