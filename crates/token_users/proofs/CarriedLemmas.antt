-- Texts that a header carries.
use Rattle.std.proofs.Common.{◌≡◌, ◌≢◌, ◌≤◌, ℕ, List, [], ◌∷◌, ◌++◌, length, reverse, Bool, true, false, true≢false, Some, refl, sym, ap, ◌∙◌, arith, length-append}
use Rattle.std.specs.Prelude.{◌-◌, ◌==◌, ◌&&◌, ◌||◌, not, nat_le, slice_get, IsTrue}
use Rattle.std.specs.List.{AllByRecursion}
use Rattle.std.proofs.lemmas.Bool.{leb-true}
use Rattle.std.proofs.lemmas.Bool.Decides.{Decides-eqb}
use Rattle.std.proofs.lemmas.List.{reverse-append}
use Rattle.std.proofs.lemmas.List.Elements.{All-from_recursion}
use Rattle.http_head.specs.Connection.{is_blank}
use Rattle.http_head.specs.Legal.{IsLegalHeader}
use Rattle.http_head.specs.declared.header.Header.{Header}
use Rattle.token_users.specs.Carried.{IsCarried, IsPlain, has_blank_at, has_blank_ends, is_blank_byte, is_plain}

-- ---- tests

pub and_parts : (a b : Bool) → (a && b) ≡ true → (a ≡ true) × (b ≡ true)
and_parts true b h = (refl, h)
and_parts false b h = absurd (true≢false (sym h))

pub and_true : (a b : Bool) → a ≡ true → b ≡ true → (a && b) ≡ true
and_true a b h k = rw h k

pub or_parts : (a b : Bool) → (a || b) ≡ false → (a ≡ false) × (b ≡ false)
or_parts true b h = absurd (true≢false h)
or_parts false b h = (refl, h)

not_true : (b : Bool) → not b ≡ true → b ≡ false
not_true true h = absurd (true≢false (sym h))
not_true false h = refl

-- ---- no control character

plain_byte : (b : ℕ) → (nat_le 32 b && not (b == 127)) ≡ true → (32 ≤ b) × (b ≢ 127)
plain_byte b h =
    let parts = and_parts (nat_le 32 b) (not (b == 127)) h in (
      leb-true 32 b parts.0,
      λ e. true≢false (sym ((Decides-eqb b 127).1 e) ∙ not_true (b == 127) parts.1),
    )

plain_bytes : (text : List ℕ) → is_plain text ≡ true → AllByRecursion (λ b. (32 ≤ b) × (b ≢ 127)) text
plain_bytes [] h = tt
plain_bytes (b ∷ bs) h =
    let parts = and_parts (nat_le 32 b && not (b == 127)) (is_plain bs) h in
    (plain_byte b parts.0, plain_bytes bs parts.1)

pub plain : (text : List ℕ) → is_plain text ≡ true → IsPlain text
plain text h = All-from_recursion (λ b. (32 ≤ b) × (b ≢ 127)) text (plain_bytes text h)

-- ---- what a legal header has as its value

or_last : (a b : Bool) → b ≡ true → IsTrue (a || b)
or_last true b h = refl
or_last false b h = h

value_bytes : (text : List ℕ) → is_plain text ≡ true → AllByRecursion (λ b. IsTrue ((b == 9) || (nat_le 32 b && not (b == 127)))) text
value_bytes [] h = tt
value_bytes (b ∷ bs) h =
    let parts = and_parts (nat_le 32 b && not (b == 127)) (is_plain bs) h in
    (or_last (b == 9) (nat_le 32 b && not (b == 127)) parts.0, value_bytes bs parts.1)

-- a text that isn't empty has a last byte
last_of : (b : ℕ) (bs : List ℕ) → (front : List ℕ) × (last : ℕ) × (b ∷ bs ≡ front ++ last ∷ [])
last_of b [] = ([], b, refl)
last_of b (c ∷ bs) = let more = last_of c bs in (b ∷ more.0, more.1, ap (λ rest. b ∷ rest) more.2)

last_byte : (front : List ℕ) (last : ℕ) → slice_get (front ++ last ∷ []) (length front) ≡ Some last
last_byte [] last = refl
last_byte (f ∷ front) last = last_byte front last

last_at : (front : List ℕ) (last : ℕ) → length (front ++ last ∷ []) - 1 ≡ length front
last_at front last = let len = length-append front (last ∷ []) in omega arith

ends_so : (front : List ℕ) (last : ℕ) → has_blank_at (front ++ last ∷ []) (length (front ++ last ∷ []) - 1) ≡ is_blank last
ends_so front last =
    ap (λ n. has_blank_at (front ++ last ∷ []) n) (last_at front last) ∙ ap is_blank_byte (last_byte front last)

-- the last byte of a text that has one
record Turned (b : ℕ) (bs : List ℕ) : Type 0 where
  last : ℕ
  front : List ℕ
  is : reverse (b ∷ bs) ≡ last ∷ reverse front
  no_blank : is_blank last ≡ false

turned : (b : ℕ) (bs : List ℕ) → has_blank_at (b ∷ bs) (length (b ∷ bs) - 1) ≡ false → Turned b bs
turned b bs h =
    let split = last_of b bs in
    record {
      last = split.1;
      front = split.0;
      is = ap reverse split.2 ∙ reverse-append split.0 (split.1 ∷ []);
      no_blank = sym (ends_so split.0 split.1) ∙ ap (λ text. has_blank_at text (length text - 1)) (sym split.2) ∙ h;
    }

pub carried : (text : List ℕ) → is_plain text ≡ true → has_blank_ends text ≡ false → IsCarried text
carried [] h e = λ header legal. record {
  name = legal.name;
  value = All-from_recursion _ [] (value_bytes [] h);
  begins = refl;
  ends = refl;
}
carried (b ∷ bs) h e =
    let parts = or_parts (has_blank_at (b ∷ bs) 0) (has_blank_at (b ∷ bs) (length (b ∷ bs) - 1)) e in
    let first : is_blank b ≡ false = parts.0 in
    let end = turned b bs parts.1 in
    let last : is_blank end.last ≡ false = end.no_blank in
    let is : reverse (b ∷ bs) ≡ end.last ∷ reverse end.front = end.is in
    λ header legal. record {
      name = legal.name;
      value = All-from_recursion _ (b ∷ bs) (value_bytes (b ∷ bs) h);
      begins = rw first refl;
      ends = rw is (rw last refl);
    }

-- what a legal header has already
pub carried_already : (header : Header) → IsLegalHeader header → IsCarried header.value
carried_already header own = λ other legal. record { name = legal.name; value = own.value; begins = own.begins; ends = own.ends }
