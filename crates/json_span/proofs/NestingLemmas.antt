-- Bits of a number as a list of kinds.
use Rattle.std.proofs.Common.{◌≡◌, ℕ, zero, suc, ◌+◌, ◌*◌, ◌-◌, ◌/◌, ◌%◌, ◌^◌, ◌<◌, ◌≤◌, ◌∷◌, List, length, true, cond, Some, refl, sym, ap, ◌∙◌, arith, nat_eq, nat_lt}
use Rattle.std.proofs.Math.Pow.{pow_mono}
use Rattle.std.proofs.lemmas.Bool.Decides.{nat_tests}
use Rattle.json_span.specs.Nesting.{kind_of, kinds_of, innermost, without_innermost, is_empty}
use Rattle.json_span.specs.declared.nesting.Kind.{Kind}
use Rattle.json_span.specs.declared.nesting.Kind.TheVariants as kind

pub length-kinds_of : (n bits : ℕ) → length (kinds_of n bits) ≡ n
length-kinds_of zero bits = refl
length-kinds_of (suc n) bits = ap suc (length-kinds_of n (bits / 2))

pub closed : (n bits : ℕ) → 0 < n → kinds_of (n - 1) (bits / 2) ≡ without_innermost (kinds_of n bits)
closed zero bits h = absurd (omega (arith, h))
closed (suc n) bits h = let less : suc n - 1 ≡ n = omega arith in ap (λ m. kinds_of m (bits / 2)) less

pub innermost_of : (n bits : ℕ) → 0 < n → innermost (kinds_of n bits) ≡ Some (kind_of bits)
innermost_of zero bits h = absurd (omega (arith, h))
innermost_of (suc n) bits h = refl

pub emptiness : (n bits : ℕ) → nat_eq n 0 ≡ is_empty (kinds_of n bits)
emptiness zero bits = refl
emptiness (suc n) bits = grind (arith, nat_tests)

opened : (n bits bit : ℕ) → bit < 2 → kinds_of (n + 1) (bits * 2 + bit) ≡ kind_of bit ∷ kinds_of n bits
opened n bits bit h =
    let more : n + 1 ≡ suc n = omega arith in
    let odd : (bits * 2 + bit) % 2 ≡ bit % 2 = omega (arith, h) in
    let half : (bits * 2 + bit) / 2 ≡ bits = omega (arith, h) in
    ap (λ m. kinds_of m (bits * 2 + bit)) more ∙ ap (λ r. cond (nat_eq r 0) kind.Array kind.Object ∷ kinds_of n ((bits * 2 + bit) / 2)) odd ∙ ap (λ r. kind_of bit ∷ kinds_of n r) half

pub opened_array : (n bits bit : ℕ) (k : Kind) (kinds : List Kind) → bit ≡ 0 → k ≡ kind.Array → kinds_of n bits ≡ kinds → kinds_of (n + 1) (bits * 2 + bit) ≡ k ∷ kinds
opened_array n bits bit k kinds is_bit is_kind are = opened n bits bit (omega (arith, is_bit)) ∙ rw (is_bit, is_kind, are) refl

pub opened_object : (n bits bit : ℕ) (k : Kind) (kinds : List Kind) → bit ≡ 1 → k ≡ kind.Object → kinds_of n bits ≡ kinds → kinds_of (n + 1) (bits * 2 + bit) ≡ k ∷ kinds
opened_object n bits bit k kinds is_bit is_kind are = opened n bits bit (omega (arith, is_bit)) ∙ rw (is_bit, is_kind, are) refl

pub double_fits : (bits n : ℕ) → bits < 2 ^ n → n ≤ 128 → ¬ (n ≡ 128) → bits * 2 + 1 < 2 ^ 128
double_fits bits n small within other =
    let below : n ≤ 127 = omega (arith, within, other) in
    let bound : 2 ^ n ≤ 2 ^ 127 = pow_mono {i = n} {j = 127} below in
    omega (arith, small, bound)

pub has_room : (n bits : ℕ) → n ≤ 128 → ¬ (n ≡ 128) → true ≡ nat_lt (length (kinds_of n bits)) 128
has_room n bits within other = sym (ap (λ m. nat_lt m 128) (length-kinds_of n bits) ∙ grind (arith, nat_tests, within, other))
