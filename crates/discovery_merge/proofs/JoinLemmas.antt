-- Texts that are written one after another, with a comma in front of all but the first.
use Rattle.std.proofs.Common.{◌≡◌, ℕ, zero, suc, ◌+◌, ◌<◌, ◌≤◌, List, [], ◌∷◌, ◌++◌, map, length, take, get_or, refl, sym, ap, ◌∙◌, append_assoc, arith}
use Rattle.std.proofs.lemmas.List.{take_more, append-nil, map-append}
use Rattle.std.specs.List.{join_with_byte}

-- one text more
joined-push : (c : ℕ) (t : List ℕ) (texts : List (List ℕ)) (u : List ℕ)
    → join_with_byte c ((t ∷ texts) ++ u ∷ []) ≡ join_with_byte c (t ∷ texts) ++ c ∷ u
joined-push c t [] u = refl
joined-push c t (s ∷ texts) u =
    ap (λ l. t ++ c ∷ l) (joined-push c s texts u) ∙ sym (append_assoc t (c ∷ join_with_byte c (s ∷ texts)) (c ∷ u))

-- what is written piece by piece
pub written_two : (o a b p q : List ℕ) → p ≡ o ++ a → q ≡ p ++ b → q ≡ o ++ (a ++ b)
written_two o a b p q f g = g ∙ ap (λ l. l ++ b) f ∙ append_assoc o a b

pub written_three : (o a b c p q r : List ℕ) → p ≡ o ++ a → q ≡ p ++ b → r ≡ q ++ c → r ≡ o ++ (a ++ (b ++ c))
written_three o a b c p q r f g h = written_two o a (b ++ c) p r f (written_two p b c q r g h)

-- where nothing was there before
pub written_whole : (o a b c p q r : List ℕ) → o ≡ [] → p ≡ o ++ a → q ≡ p ++ b → r ≡ q ++ c → r ≡ a ++ (b ++ c)
written_whole o a b c p q r none f g h = written_three o a b c p q r f g h ∙ ap (λ l. l ++ (a ++ (b ++ c))) none

pub written_five : (o a b c d e p q r s t : List ℕ)
    → p ≡ o ++ a → q ≡ p ++ b → r ≡ q ++ c → s ≡ r ++ d → t ≡ s ++ e → t ≡ o ++ (a ++ (b ++ (c ++ (d ++ e))))
written_five o a b c d e p q r s t f g h i j =
    written_three o a b (c ++ (d ++ e)) p q t f g (written_three q c d e r s t h i j)

pub written_six : (o a b c d e w p q r s t u : List ℕ)
    → p ≡ o ++ a → q ≡ p ++ b → r ≡ q ++ c → s ≡ r ++ d → t ≡ s ++ e → u ≡ t ++ w
    → u ≡ o ++ (a ++ (b ++ (c ++ (d ++ (e ++ w)))))
written_six o a b c d e w p q r s t u f g h i j k =
    written_two o a (b ++ (c ++ (d ++ (e ++ w)))) p u f (written_five p b c d e w q r s t u g h i j k)

pub map_twice : {A B C : Type 0} (g : B → C) (f : A → B) (xs : List A) → map g (map f xs) ≡ map (λ x. g (f x)) xs
map_twice g f [] = refl
map_twice g f (x ∷ xs) = ap (λ l. g (f x) ∷ l) (map_twice g f xs)

-- texts of items, of which one more is written at the end of what was there
module _ {X : Type 0} (f : X → List ℕ) (xs : List X) (x : X) (o : List ℕ) where
  pub joined_first : (i : ℕ) (p q : List ℕ) → i ≤ 0 → i < length xs → x ≡ get_or xs i x
      → p ≡ o ++ join_with_byte 44 (map f (take i xs)) → q ≡ p ++ f x
      → q ≡ o ++ join_with_byte 44 (map f (take (i + 1) xs))
  joined_first zero p q none less is before now =
      now ∙ ap (λ l. l ++ f x) (before ∙ append-nil o)
      ∙ ap (λ l. o ++ join_with_byte 44 (map f l)) (sym (take_more xs 0 x less ∙ ap (λ y. y ∷ []) (sym is)))
  joined_first (suc i) p q none less is before now = absurd (omega arith)

  pub joined_more : (i : ℕ) (p q r : List ℕ) → 0 < i → i < length xs → x ≡ get_or xs i x
      → p ≡ o ++ join_with_byte 44 (map f (take i xs)) → q ≡ p ++ 44 ∷ [] → r ≡ q ++ f x
      → r ≡ o ++ join_with_byte 44 (map f (take (i + 1) xs))
  joined_more i p q r some less is before comma now =
      written_three o (join_with_byte 44 (map f (take i xs))) (44 ∷ []) (f x) p q r before comma now
      ∙ ap (λ l. o ++ l) (sym (
      ap (λ l. join_with_byte 44 (map f l)) (take_more xs i x less ∙ ap (λ y. take i xs ++ y ∷ []) (sym is))
      ∙ further xs i some less
      ))
    where
      further : (ys : List X) (i : ℕ) → 0 < i → i < length ys
          → join_with_byte 44 (map f (take i ys ++ x ∷ [])) ≡ join_with_byte 44 (map f (take i ys)) ++ 44 ∷ f x
      further [] i some less = absurd (omega arith)
      further (y ∷ ys) zero some less = absurd (omega arith)
      further (y ∷ ys) (suc i) some less =
          ap (join_with_byte 44) (map-append f (y ∷ take i ys) (x ∷ [])) ∙ joined-push 44 (f y) (map f (take i ys)) (f x)
