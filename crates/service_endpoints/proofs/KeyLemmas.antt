-- The lengths of keys.
use Rattle.std.proofs.Common.{◌≡◌, ℕ, ◌+◌, ◌<◌, ◌≤◌, ◌^◌, Bool, true, false, List, [], ◌∷◌, length, get_or, Option, Some, None, refl, ap, arith, length-append}
use Rattle.std.specs.Prelude.{nat_lt, ◌&&◌, ◌==◌}
use Rattle.std.specs.List.{position_or_len, before_first, after_first}
use Rattle.std.specs.Str.{all_ascii_digits}
use Rattle.std.specs.Str.Parse.{digits_value}
use Rattle.std.proofs.lemmas.Bool.Decides.{Decides-ltb, nat_tests}
use Rattle.std.proofs.lemmas.Fmt.{decimal-digits_value, length-decimal-le}
use Rattle.std.proofs.lemmas.List.Sums.{split_at_first}
use Rattle.std.proofs.lemmas.Str.Parse.{IsNumeralModel, numerals_by_value, tells_all_ascii_digits}
use Rattle.front_base.specs.Address.{port_of}
use Rattle.front_base.specs.Cut.{cut_at}
use Rattle.front_base.specs.Number.{is_number, number_of, has_leading_zero, plain_number_of}
use Rattle.apiservice_rows.specs.Object.{is_service_name, is_group, are_name_bytes}
use Rattle.service_endpoints.specs.Key.{is_port, is_name_and_port, is_service_key, are_parts}

pub both : (a b : Bool) → (a && b) ≡ true → (a ≡ true) × (b ≡ true)
both true b e = (refl, e)
both false b e = absurd (cc e)

-- a text is as long as its two parts and what stands between them
parts_length : (at : ℕ) (text : List ℕ) (parts : List ℕ × List ℕ) → cut_at at text ≡ Some parts → length text ≡ length parts.0 + (1 + length parts.1)
unfolding cut_at
parts_length at text parts e = by_cases (nat_lt (position_or_len (λ b. b == at) text) (length text)) refl
  where
    by_cases : (b : Bool) → nat_lt (position_or_len (λ b. b == at) text) (length text) ≡ b → length text ≡ length parts.0 + (1 + length parts.1)
    by_cases false is = absurd (cc (rw is at e))
    by_cases true is =
        let here = split_at_first (λ b. b == at) text 0 ((Decides-ltb _ _).0 is) in
        let same : Some (before_first (λ b. b == at) text, after_first (λ b. b == at) text) ≡ Some parts = rw is at e in
        let front : before_first (λ b. b == at) text ≡ parts.0 = cc same in
        let back : after_first (λ b. b == at) text ≡ parts.1 = cc same in
        rw (← front, ← back) (omega (arith, ap length here, length-append (before_first (λ b. b == at) text) (get_or text (position_or_len (λ b. b == at) text) 0 ∷ after_first (λ b. b == at) text)))

-- parts of bounded lengths make a text of a bounded length
cut_length : (at m n : ℕ) (first second : List ℕ → Bool) → ((t : List ℕ) → first t ≡ true → length t ≤ m) → ((t : List ℕ) → second t ≡ true → length t ≤ n)
    → (text : List ℕ) → are_parts first second (cut_at at text) ≡ true → length text ≤ m + (1 + n)
cut_length at m n first second f s text e = by_cases (cut_at at text) refl
  where
    by_cases : (o : Option (List ℕ × List ℕ)) → cut_at at text ≡ o → length text ≤ m + (1 + n)
    by_cases None is = absurd (cc (rw is at e))
    by_cases (Some parts) is =
        let h = both (first parts.0) (second parts.1) (rw is at e) in
        omega (arith, parts_length at text parts is, f parts.0 h.0, s parts.1 h.1)

name_length : (t : List ℕ) → is_service_name t ≡ true → length t ≤ 253
name_length t e =
    let h = both (nat_lt (length t) 254) (are_name_bytes t) (both (nat_lt 0 (length t)) (is_group t) e).1 in
    grind (arith, nat_tests, h.0)

pub own : IsNumeralModel (λ ds. all_ascii_digits ds ≡ true) (digits_value 10)
own = numerals_by_value _ tells_all_ascii_digits

-- a text without a leading zero that begins with one is just that
alone : (t : List ℕ) → has_leading_zero t ≡ false → 0 < length t → get_or t 0 0 ≡ 48 → length t ≡ 1
alone [] e h z = absurd (omega arith)
alone (c ∷ rest) e h z =
    let short : nat_lt 0 (length rest) ≡ false = rw z at e in
    grind (arith, nat_tests, short)

number_length : (t : List ℕ) (n : ℕ) → has_leading_zero t ≡ false → number_of t ≡ Some n → n ≤ 65535 → length t ≤ 5
unfolding number_of
number_length t n plain e low = by_cases (is_number t && nat_lt (digits_value 10 t) (2 ^ 64)) refl
  where
    by_cases : (b : Bool) → (is_number t && nat_lt (digits_value 10 t) (2 ^ 64)) ≡ b → length t ≤ 5
    by_cases false is = absurd (cc (rw is at e))
    by_cases true is =
        let h = both (is_number t) (nat_lt (digits_value 10 t) (2 ^ 64)) is in
        let d = both (nat_lt 0 (length t)) (all_ascii_digits t) h.0 in
        let some : 0 < length t = (Decides-ltb 0 (length t)).0 d.0 in
        let same : Some (digits_value 10 t) ≡ Some n = rw is at e in
        let value : digits_value 10 t ≡ n = cc same in
        let text = decimal-digits_value own t d.1 some (alone t plain some) ((Decides-ltb _ _).0 h.1) in
        let short = length-decimal-le 5 (digits_value 10 t) (omega arith) (omega (arith, value, low)) ((Decides-ltb _ _).0 h.1) in
        rw text at short

port_length : (t : List ℕ) → is_port t ≡ true → length t ≤ 5
unfolding port_of plain_number_of
port_length t e = by_zero (has_leading_zero t) refl
  where
    by_number : has_leading_zero t ≡ false → (o : Option ℕ) → number_of t ≡ o → length t ≤ 5
    by_number plain None is = absurd (cc (rw (plain, is) at e))
    by_number plain (Some n) is = by_range (nat_lt n 65536) refl
      where
        by_range : (b : Bool) → nat_lt n 65536 ≡ b → length t ≤ 5
        by_range false high = absurd (cc (rw (plain, is, high) at e))
        by_range true low = number_length t n plain is (grind (arith, nat_tests, low))

    by_zero : (b : Bool) → has_leading_zero t ≡ b → length t ≤ 5
    by_zero true z = absurd (cc (rw z at e))
    by_zero false plain = by_number plain (number_of t) refl

-- a service's key has at most that many bytes
pub service_length : (t : List ℕ) → is_service_key t ≡ true → length t ≤ 513
unfolding is_service_key
service_length t e = cut_length 47 253 259 is_service_name is_name_and_port name_length (cut_length 58 253 5 is_service_name is_port name_length port_length) t e
