-- How many bytes texts have in a line.
use Rattle.std.proofs.Common.{◌≡◌, ◌≢◌, ℕ, ◌+◌, ◌*◌, ◌≤◌, length, Bool, true, false, nat_lt, if◌then◌else◌, List, [], ◌∷◌, ◌++◌, Option, Some, None, refl, ap, ◌∙◌, length-append, arith, lit≤}
use Rattle.std.specs.Prelude.{codes, ◌/◌, ◌%◌}
use Rattle.std.specs.List.{All, flat_map}
use Rattle.std.proofs.lemmas.Bool.Decides.{nat_tests}
use Rattle.std.proofs.lemmas.Grind.{flat_map-append}
use Rattle.std.proofs.lemmas.List.Elements.{All-head, All-tail}
use Rattle.json_span.specs.Quote.{escaped, escape_or, short_escape, unless_control, hex_digit, quoted}
use Rattle.line_bounds.specs.Bounds.{text_size}

-- ---- one byte

or_most : (o : Option ℕ) (other : List ℕ) (n : ℕ) → 2 ≤ n → length other ≤ n → length (escape_or o other) ≤ n
or_most None other n two h = h
or_most (Some letter) other n two h = omega arith

control_most : (t : Bool) (b : ℕ) →
    length (if t then codes "\\u00" ++ (hex_digit (b / 16) ∷ hex_digit (b % 16) ∷ []) else b ∷ []) ≤ 6
control_most true b = omega arith
control_most false b = omega arith

pub escaped-six : (b : ℕ) → length (escaped b) ≤ 6
escaped-six b = or_most (short_escape b) (unless_control b) 6 (lit≤ tt) (control_most (nat_lt b 32) b)

itself : (b : ℕ) → 32 ≤ b → unless_control b ≡ b ∷ []
itself b h = grind (arith, nat_tests)

pub escaped-two : (b : ℕ) → 32 ≤ b → length (escaped b) ≤ 2
escaped-two b h =
    let one : length (unless_control b) ≡ 1 = ap length (itself b h) in
    or_most (short_escape b) (unless_control b) 2 (lit≤ tt) (omega arith)

-- a byte that needs no escape
pub record IsPlainByte (b : ℕ) : Type 0 where
  pub low : 32 ≤ b
  pub quote : b ≢ 34
  pub backslash : b ≢ 92

pub escaped-one : (b : ℕ) → 32 ≤ b → b ≢ 34 → b ≢ 92 → escaped b ≡ b ∷ []
escaped-one b low quote backslash = grind (arith, nat_tests)

-- ---- texts

pub size-cons : (b : ℕ) (bs : List ℕ) → text_size (b ∷ bs) ≡ length (escaped b) + text_size bs
unfolding text_size
size-cons b bs = length-append (escaped b) (flat_map escaped bs)

pub size-nil : text_size [] ≡ 0
unfolding text_size
size-nil = refl

pub size-append : (xs ys : List ℕ) → text_size (xs ++ ys) ≡ text_size xs + text_size ys
unfolding text_size
size-append xs ys = ap length (flat_map-append escaped xs ys) ∙ length-append (flat_map escaped xs) (flat_map escaped ys)

pub size-quoted : (text : List ℕ) → length (quoted text) ≡ text_size text + 2
unfolding text_size
size-quoted text = let a = length-append (flat_map escaped text) (34 ∷ []) in omega arith

pub size-six : (text : List ℕ) → text_size text ≤ 6 * length text
size-six [] = omega (arith, size-nil)
size-six (b ∷ bs) = omega (arith, size-cons b bs, escaped-six b, size-six bs)

pub size-two : (text : List ℕ) → All (λ b. 32 ≤ b) text → text_size text ≤ 2 * length text
size-two [] h = omega (arith, size-nil)
size-two (b ∷ bs) h =
    let own = escaped-two b (All-head (λ b. 32 ≤ b) b bs h) in
    let rest = size-two bs (All-tail (λ b. 32 ≤ b) b bs h) in
    omega (arith, size-cons b bs)

pub plain-cons : (b : ℕ) (bs : List ℕ) (n : ℕ) → IsPlainByte b → text_size bs ≡ n → text_size (b ∷ bs) ≡ n + 1
plain-cons b bs n plain rest =
    let own : length (escaped b) ≡ 1 = ap length (escaped-one b plain.low plain.quote plain.backslash) in
    omega (arith, size-cons b bs)

pub size-one : (text : List ℕ) → All IsPlainByte text → text_size text ≡ length text
size-one [] h = size-nil
size-one (b ∷ bs) h =
    let c = plain-cons b bs (length bs) (All-head IsPlainByte b bs h) (size-one bs (All-tail IsPlainByte b bs h)) in
    omega arith
