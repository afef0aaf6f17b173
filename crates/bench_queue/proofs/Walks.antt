-- Lists that are walked by value.
use Rattle.std.proofs.Common.{◌≡◌, ◌<◌, length-append, List, [], ◌∷◌, ◌++◌, length, slice_get, IfSome, append_assoc, sym, ap, ◌∙◌, arith, ℕ, suc}

pub next_whole : {A : Type 0} (xs ys rest zs : List A) (x : A) → xs ≡ ys ++ rest → rest ≡ x ∷ zs → xs ≡ (ys ++ x ∷ []) ++ zs
next_whole xs ys rest zs x e r = (e ∙ ap (λ l. ys ++ l) r) ∙ sym (append_assoc ys (x ∷ []) zs)

pub next_below : {A : Type 0} (xs ys rest zs : List A) (x : A) → xs ≡ ys ++ rest → rest ≡ x ∷ zs → length ys < length xs
next_below xs ys rest zs x e r = omega (arith, ap length (e ∙ ap (λ l. ys ++ l) r), length-append ys (x ∷ zs))

-- what holds at the next place
pub next_at : {A : Type 0} (P : ℕ → A → Type 0) (ys zs : List A) (x : A) → ((k : ℕ) → IfSome (slice_get (ys ++ x ∷ zs) k) (P k)) → P (length ys) x
next_at P [] zs x f = f 0
next_at P (y ∷ ys) zs x f = next_at (λ n. P (suc n)) ys zs x (λ n. f (suc n))
