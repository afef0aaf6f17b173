-- What keys are to services.
use Rattle.std.proofs.Common.{◌≡◌, ℕ, ◌<◌, ◌^◌, Bool, true, false, List, [], ◌∷◌, ◌++◌, length, get_or, Option, Some, None, refl, sym, ap, ◌∙◌, arith, length-append}
use Rattle.std.specs.Prelude.{nat_lt, ◌==◌, ◌||◌, decimal}
use Rattle.std.specs.List.{AllByRecursion, position_or_len}
use Rattle.std.specs.Str.{all_ascii_digits}
use Rattle.std.specs.Str.Parse.{digits_value}
use Rattle.std.proofs.lemmas.Bool.Decides.{Decides-eqb, Decides-ltb, nat_tests}
use Rattle.std.proofs.Math.Seq.{take-append_seam, drop-append-add}
use Rattle.std.proofs.lemmas.Fmt.{digits_decimal, digits_value-decimal, first_decimal, decimal_is_IsNumeral}
use Rattle.front_base.specs.Address.{port_of}
use Rattle.front_base.specs.Cut.{cut_at}
use Rattle.front_base.specs.Number.{number_of, has_leading_zero, plain_number_of}
use Rattle.apiservice_rows.specs.Object.{is_name_byte, are_name_bytes, is_service_name, is_group}
use Rattle.apiservice_rows.specs.declared.service.ServiceRef.{ServiceRef}
use Rattle.service_endpoints.specs.Key.{IsService, delegate_key, is_key, is_port, is_service_key, others_key, service_key}
use Rattle.service_endpoints.proofs.KeyLemmas.{both, own}

-- ---- a text in two parts

-- the byte isn't among those
abbrev Lacks : ℕ → List ℕ → Type 0
Lacks at xs = AllByRecursion (λ b. (b == at) ≡ false) xs

place : (at : ℕ) (front rest : List ℕ) → Lacks at front → position_or_len (λ b. b == at) (front ++ at ∷ rest) ≡ length front
place at [] rest h = let same : (at == at) ≡ true = (Decides-eqb at at).1 refl in rw same refl
place at (c ∷ front) rest h = rw h.0 (omega (arith, place at front rest h.1))

cut_joined : (at : ℕ) (front rest : List ℕ) → Lacks at front → cut_at at (front ++ at ∷ rest) ≡ Some (front, rest)
unfolding cut_at
cut_joined at front rest h =
    let within : nat_lt (length front) (length (front ++ at ∷ rest)) ≡ true = (Decides-ltb _ _).1 (omega (arith, length-append front (at ∷ rest))) in
    rw (place at front rest h, within, take-append_seam front (at ∷ rest), drop-append-add front (at ∷ rest) 1) refl

-- ---- names have neither slash nor colon

lacks : (at : ℕ) → is_name_byte at ≡ false → (xs : List ℕ) → are_name_bytes xs ≡ true → Lacks at xs
lacks at other [] e = tt
lacks at other (c ∷ xs) e = (differs (c == at) refl, lacks at other xs h.1)
  where
    h : (is_name_byte c ≡ true) × (are_name_bytes xs ≡ true)
    h = both (is_name_byte c) (are_name_bytes xs) e

    differs : (b : Bool) → (c == at) ≡ b → b ≡ false
    differs true is = let same : c ≡ at = (Decides-eqb c at).0 is in absurd (cc (sym (h.0) ∙ ap is_name_byte same ∙ other))
    differs false is = refl

name_lacks : (at : ℕ) → is_name_byte at ≡ false → (xs : List ℕ) → is_service_name xs ≡ true → Lacks at xs
name_lacks at other xs e = lacks at other xs (both (nat_lt (length xs) 254) (are_name_bytes xs) (both (nat_lt 0 (length xs)) (is_group xs) e).1).1

abbrev first_of : Option (List ℕ × List ℕ) → List ℕ
first_of None = []
first_of (Some parts) = parts.0

abbrev second_of : Option (List ℕ × List ℕ) → List ℕ
second_of None = []
second_of (Some parts) = parts.1

abbrev rest_of : ServiceRef → List ℕ
rest_of s = s.name ++ 58 ∷ decimal s.port

key_parts : (s : ServiceRef) → IsService s → cut_at 47 (service_key s) ≡ Some (s.namespace, rest_of s)
key_parts s h = cut_joined 47 s.namespace (rest_of s) (name_lacks 47 refl s.namespace h.namespace)

rest_parts : (s : ServiceRef) → IsService s → cut_at 58 (rest_of s) ≡ Some (s.name, decimal s.port)
rest_parts s h = cut_joined 58 s.name (decimal s.port) (name_lacks 58 refl s.name h.name)

-- ---- a service has its key alone

same_service : (s t : ServiceRef) → s.namespace ≡ t.namespace → s.name ≡ t.name → s.port ≡ t.port → s ≡ t
same_service s t a b c = rw (a, b, c) refl

pub keys_are_distinct : (s t : ServiceRef) → IsService s → IsService t → service_key s ≡ service_key t → s ≡ t
keys_are_distinct s t hs ht e =
    let first : Some (s.namespace, rest_of s) ≡ Some (t.namespace, rest_of t) = sym (key_parts s hs) ∙ ap (cut_at 47) e ∙ key_parts t ht in
    let namespace : s.namespace ≡ t.namespace = ap first_of first in
    let rest : rest_of s ≡ rest_of t = ap second_of first in
    let second : Some (s.name, decimal s.port) ≡ Some (t.name, decimal t.port) = sym (rest_parts s hs) ∙ ap (cut_at 58) rest ∙ rest_parts t ht in
    let name : s.name ≡ t.name = ap first_of second in
    let digits : decimal s.port ≡ decimal t.port = ap second_of second in
    let port = sym (digits_value-decimal own s.port (omega (arith, hs.low_port))) ∙ ap (digits_value 10) digits ∙ digits_value-decimal own t.port (omega (arith, ht.low_port)) in
    same_service s t namespace name port

pub no_delegate : (s : ServiceRef) → IsService s → service_key s ≡ delegate_key → ⊥
unfolding cut_at
no_delegate s h e = cc (sym (key_parts s h) ∙ ap (cut_at 47) e)

pub no_others : (s : ServiceRef) → IsService s → service_key s ≡ others_key → ⊥
unfolding cut_at
no_others s h e = cc (sym (key_parts s h) ∙ ap (cut_at 47) e)

pub delegate_apart : delegate_key ≡ others_key → ⊥
delegate_apart e = cc e

-- ---- and the key is taken

plain : (ds : List ℕ) → 48 < get_or ds 0 0 → has_leading_zero ds ≡ false
plain [] h = refl
plain (c ∷ rest) h = let no : (c == 48) ≡ false = grind (arith, nat_tests, h) in rw no refl

port_is_taken : (n : ℕ) → 0 < n → n < 65536 → is_port (decimal n) ≡ true
unfolding port_of plain_number_of number_of
port_is_taken n some low =
    let fits : n < 2 ^ 64 = omega (arith, low) in
    let numeral = decimal_is_IsNumeral n fits in
    let digits : all_ascii_digits (decimal n) ≡ true = digits_decimal own n fits in
    let length_is : nat_lt 0 (length (decimal n)) ≡ true = (Decides-ltb _ _).1 numeral.0.0 in
    let value : digits_value 10 (decimal n) ≡ n = digits_value-decimal own n fits in
    let wide : nat_lt n (2 ^ 64) ≡ true = (Decides-ltb _ _).1 fits in
    let narrow : nat_lt n 65536 ≡ true = (Decides-ltb _ _).1 low in
    let no_zero : (n == 0) ≡ false = grind (arith, nat_tests, some) in
    rw (plain (decimal n) (first_decimal n some fits), length_is, digits, value, wide, narrow, no_zero) refl

or_true : (b c : Bool) → c ≡ true → (b || c) ≡ true
or_true true c e = refl
or_true false c e = e

pub keys_are_taken : (s : ServiceRef) → IsService s → is_key (service_key s) ≡ true
unfolding is_service_key
keys_are_taken s h =
    or_true _ (is_service_key (service_key s)) (rw (key_parts s h, rest_parts s h, h.namespace, h.name, port_is_taken s.port h.some_port h.low_port) refl)
