-- Tests of the first bytes.
use Rattle.std.proofs.Common.{◌≡◌, ℕ, ◌≤◌, ◌<◌, ◌∷◌, [], ◌++◌, List, length, drop, get_or, Bool, true, false, refl, ap, ◌∙◌, arith}
use Rattle.std.specs.Prelude.{◌==◌, ◌&&◌}
use Rattle.std.proofs.Math.Seq.{drop-cons}
use Rattle.json_span.specs.Strings.{is}
use Rattle.json_prune.specs.Mend.{begins, high, low, pair}

and_true : (c : Bool) → (c && true) ≡ c
and_true true = refl
and_true false = refl

and_false : (c : Bool) → (c && false) ≡ false
and_false true = refl
and_false false = refl

and_assoc : (a b c : Bool) → (a && (b && c)) ≡ ((a && b) && c)
and_assoc true b c = refl
and_assoc false b c = refl

pub both_true : (a b : Bool) → (a && b) ≡ true → (a ≡ true) × (b ≡ true)
both_true true b h = (refl, h)
both_true false b h = absurd (cc h)

pub begins_short : (ps : List (ℕ → Bool)) (xs : List ℕ) → length xs < length ps → begins ps xs ≡ false
begins_short [] xs h = absurd (omega (arith, h))
begins_short (p ∷ ps) [] h = refl
begins_short (p ∷ ps) (x ∷ xs) h = ap (λ c. p x && c) (begins_short ps xs (omega (arith, h))) ∙ and_false (p x)

pub begins_long : (ps : List (ℕ → Bool)) (xs : List ℕ) → begins ps xs ≡ true → length ps ≤ length xs
begins_long [] xs h = omega arith
begins_long (p ∷ ps) [] h = absurd (cc h)
begins_long (p ∷ ps) (x ∷ xs) h = let more = begins_long ps xs (both_true (p x) (begins ps xs) h).1 in omega (arith, more)

pub begins-append : (ps qs : List (ℕ → Bool)) (xs : List ℕ) → begins (ps ++ qs) xs ≡ (begins ps xs && begins qs (drop (length ps) xs))
begins-append [] qs xs = refl
begins-append (p ∷ ps) qs [] = refl
begins-append (p ∷ ps) qs (x ∷ xs) = ap (λ c. p x && c) (begins-append ps qs xs) ∙ and_assoc (p x) (begins ps xs) (begins qs (drop (length ps) xs))

pub begins_five : (p q r s t : ℕ → Bool) (xs : List ℕ) → 5 ≤ length xs →
    begins (p ∷ q ∷ r ∷ s ∷ t ∷ []) xs ≡ (p (get_or xs 0 0) && (q (get_or xs 1 0) && (r (get_or xs 2 0) && (s (get_or xs 3 0) && t (get_or xs 4 0)))))
begins_five p q r s t [] h = absurd (omega (arith, h))
begins_five p q r s t (a ∷ []) h = absurd (omega (arith, h))
begins_five p q r s t (a ∷ b ∷ []) h = absurd (omega (arith, h))
begins_five p q r s t (a ∷ b ∷ c ∷ []) h = absurd (omega (arith, h))
begins_five p q r s t (a ∷ b ∷ c ∷ d ∷ []) h = absurd (omega (arith, h))
begins_five p q r s t (a ∷ b ∷ c ∷ d ∷ e ∷ xs) h = ap (λ x. p a && (q b && (r c && (s d && x)))) (and_true (t e))

pub five_tests : (p q r s t : ℕ → Bool) (xs : List ℕ) (first second third hexes digits last whole : Bool) → 5 ≤ length xs →
    first ≡ p (get_or xs 0 0) → second ≡ q (get_or xs 1 0) → third ≡ r (get_or xs 2 0) → last ≡ (s (get_or xs 3 0) && t (get_or xs 4 0)) → digits ≡ (third && last) → hexes ≡ (second && digits) → whole ≡ (first && hexes) →
    whole ≡ begins (p ∷ q ∷ r ∷ s ∷ t ∷ []) xs
five_tests p q r s t xs first second third hexes digits last whole h e1 e2 e3 e4 e5 e6 e7 = cc (begins_five p q r s t xs h)

-- a pair is a first half, a backslash and a second half
pub pair_is : (xs : List ℕ) (first back second behind whole : Bool) → 6 ≤ length xs → first ≡ begins high xs → back ≡ (get_or xs 5 0 == 92) → second ≡ begins low (drop 6 xs) → behind ≡ (back && second) → whole ≡ (first && behind) →
    whole ≡ begins pair xs
pair_is xs first back second behind whole h e1 e2 e3 e4 e5 =
    let rest : begins (is 92 ∷ low) (drop 5 xs) ≡ ((get_or xs 5 0 == 92) && begins low (drop 6 xs)) = ap (begins (is 92 ∷ low)) (drop-cons xs 5 0 (omega (arith, h))) in
    let all = begins-append high (is 92 ∷ low) xs in
    cc
