-- Texts that begin with another.
use Rattle.std.proofs.Common.{◌≡◌, ℕ, List, [], ◌∷◌, ◌++◌, length, take, drop, Bool, true, false, refl, ap, ◌∙◌, arith, length-append}
use Rattle.std.specs.Prelude.{◌-◌, ◌&&◌, ◌||◌, nat_eq}
use Rattle.std.proofs.lemmas.Slice.Eq.{bytes_eq-Decides}
use Rattle.std.specs.Str.{bytes_eq}
use Rattle.std.specs.Cmp.Lexicographic.{pointwise}

and_assoc : (a b c : Bool) → (a && (b && c)) ≡ ((a && b) && c)
and_assoc true b c = refl
and_assoc false b c = refl

-- a text that is two others one after the other begins with the first, and the second is what remains
pub eq_append : (front text back : List ℕ)
    → bytes_eq text (front ++ back) ≡ (pointwise nat_eq (take (length front) text) front && bytes_eq (drop (length front) text) back)
eq_append [] text back = refl
eq_append (f ∷ front) [] back = refl
eq_append (f ∷ front) (t ∷ text) back =
    ap (λ b. nat_eq t f && b) (eq_append front text back) ∙ and_assoc (nat_eq t f) _ _

pub front_is : (front text back : List ℕ) → pointwise nat_eq (take (length front) text) front ≡ true
    → bytes_eq text (front ++ back) ≡ bytes_eq (drop (length front) text) back
front_is front text back h = eq_append front text back ∙ ap (λ b. b && bytes_eq (drop (length front) text) back) h

pub front_not : (front text back : List ℕ) → pointwise nat_eq (take (length front) text) front ≡ false
    → bytes_eq text (front ++ back) ≡ false
front_not front text back h = eq_append front text back ∙ ap (λ b. b && bytes_eq (drop (length front) text) back) h

pub is_itself : (text : List ℕ) → bytes_eq text text ≡ true
is_itself text = (bytes_eq-Decides text text).1 refl

pub or_last : (a b : Bool) → b ≡ true → (a || b) ≡ true
or_last true b h = refl
or_last false b h = h

pub or_first : (a b : Bool) → a ≡ true → (a || b) ≡ true
or_first a b h = rw h refl

and_last : (a b : Bool) → b ≡ false → (a && b) ≡ false
and_last true b h = h
and_last false b h = refl

-- a text with more behind it is another
pub is_longer : (text : List ℕ) → bytes_eq (text ++ 47 ∷ 42 ∷ []) text ≡ false
is_longer [] = refl
is_longer (c ∷ text) = and_last (nat_eq c c) _ (is_longer text)

pub is_no_asterisk : (text : List ℕ) → bytes_eq (text ++ 47 ∷ 42 ∷ []) (42 ∷ []) ≡ false
is_no_asterisk [] = refl
is_no_asterisk (c ∷ []) = and_last (nat_eq c 42) _ refl
is_no_asterisk (c ∷ d ∷ text) = and_last (nat_eq c 42) _ refl

-- what stands before the last byte, and that byte
pub before_last : (text : List ℕ) (c : ℕ) → length (text ++ c ∷ []) - 1 ≡ length text
before_last text c = let len = length-append text (c ∷ []) in omega arith
