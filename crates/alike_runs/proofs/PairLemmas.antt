-- Two lists, place by place.
use Rattle.std.proofs.Common.{◌≡◌, ◌≤◌, ℕ, zero, suc, List, [], ◌∷◌, length, slice_get, Option, Some, None, IfSome, refl, sym, subst, arith}
use Rattle.std.proofs.lemmas.Option.{slice_get_past}
use Rattle.role_threads.specs.Lists.{AllPairs, IfBoth}

pub some_is : {A : Type 0} (o : Option A) (P : A → Type 0) (x : A) → IfSome o P → o ≡ Some x → P x
some_is o P x h e = subst (λ z. IfSome z P) e h

-- what stands at the same place of both
pub pairs_at : {A B : Type 0} (P : A → B → Type 0) (xs : List A) (ys : List B) → AllPairs P xs ys → (k : ℕ) → IfBoth P (slice_get xs k) (slice_get ys k)
pairs_at P [] [] h k = tt
pairs_at P [] (y ∷ ys) h k = absurd h
pairs_at P (x ∷ xs) [] h k = absurd h
pairs_at P (x ∷ xs) (y ∷ ys) h zero = h.0
pairs_at P (x ∷ xs) (y ∷ ys) h (suc k) = pairs_at P xs ys h.1 k

pub pairs_of : {A B : Type 0} (P : A → B → Type 0) (xs : List A) (ys : List B) → ((k : ℕ) → IfBoth P (slice_get xs k) (slice_get ys k)) → AllPairs P xs ys
pairs_of P [] [] h = tt
pairs_of P [] (y ∷ ys) h = absurd (h zero)
pairs_of P (x ∷ xs) [] h = absurd (h zero)
pairs_of P (x ∷ xs) (y ∷ ys) h = (h zero, pairs_of P xs ys (λ k. h (suc k)))

past_end : {A : Type 0} (xs : List A) (k : ℕ) → slice_get xs k ≡ None → length xs ≤ k
past_end [] k e = omega arith
past_end (x ∷ xs) zero e = absurd cc
past_end (x ∷ xs) (suc k) e = let h = past_end xs k e in omega arith

-- by what stands there
by_both : {A B : Type 0} (P : A → Type 0) (Q : B → Type 0) (X : Type 0) (o : Option A) (p : Option B)
    → IfSome o P → IfSome p Q → (p ≡ None → o ≡ None) → ((x : A) (y : B) → P x → Q y → X) → (o ≡ None → X) → X
by_both P Q X None p a b h f g = g refl
by_both P Q X (Some x) None a b h f g = let e : Some x ≡ None = h refl in absurd cc
by_both P Q X (Some x) (Some y) a b h f g = f x y a b

-- of lists that are as long
pub by_place : {A B : Type 0} (P : A → Type 0) (Q : B → Type 0) (X : Type 0) (xs : List A) (ys : List B) (k : ℕ) → length xs ≡ length ys
    → IfSome (slice_get xs k) P → IfSome (slice_get ys k) Q → ((x : A) (y : B) → P x → Q y → X) → (length xs ≤ k → X) → X
by_place P Q X xs ys k n a b f g =
    by_both P Q X (slice_get xs k) (slice_get ys k) a b (λ e. slice_get_past xs k (subst (λ m. m ≤ k) (sym n) (past_end ys k e))) f
    (λ e. g (past_end xs k e))
