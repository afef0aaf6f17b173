-- Lists that are walked by value.
use Rattle.std.proofs.Common.{◌≡◌, List, [], ◌∷◌, ◌++◌, length, map, append_assoc, append-nil, sym, ap, ◌∙◌, arith}
use Rattle.std.proofs.lemmas.List.{map-append}

pub next_whole : {A : Type 0} (xs ys rest zs : List A) (x : A) → xs ≡ ys ++ rest → rest ≡ x ∷ zs → xs ≡ (ys ++ x ∷ []) ++ zs
next_whole xs ys rest zs x e r = (e ∙ ap (λ l. ys ++ l) r) ∙ sym (append_assoc ys (x ∷ []) zs)

-- the image of one more
pub image_more : {A B : Type 0} (f : A → B) (ys : List A) (x : A) (us vs : List B) (u : B) → us ≡ map f ys → vs ≡ us ++ u ∷ [] → u ≡ f x
    → vs ≡ map f (ys ++ x ∷ [])
image_more f ys x us vs u e g h = g ∙ (ap (λ z. z ++ u ∷ []) e ∙ (ap (λ z. map f ys ++ z ∷ []) h ∙ sym (map-append f ys (x ∷ []))))

-- at the end
pub all_of : {A : Type 0} (xs ys rest : List A) → xs ≡ ys ++ rest → length rest ≡ 0 → ys ≡ xs
all_of xs ys [] e r = sym (append-nil ys) ∙ sym e
all_of xs ys (z ∷ rest) e r = absurd (omega arith)
