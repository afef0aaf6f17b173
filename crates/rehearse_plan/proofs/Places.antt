-- What holds at each place of a list.
use Rattle.std.proofs.Common.{◌≡◌, ◌<◌, ◌≤◌, ◌+◌, ◌-◌, ◌⊎◌, inl, inr, ℕ, zero, suc, List, [], ◌∷◌, ◌++◌, length, get_or, slice_get, IfSome, Some, refl, subst, sym, ap, arith}

-- below the next number, or that number
split : (k n : ℕ) → k < n + 1 → (k < n) ⊎ (k ≡ n)
split zero zero lt = inr refl
split zero (suc n) lt = inl (omega arith)
split (suc k) zero lt = absurd (omega (arith, lt))
split (suc k) (suc n) lt = elim (split k n (omega (arith, lt))) [ inl e ↦ inl (omega (arith, e)) | inr e ↦ inr (ap suc e) ]

module _ {A : Type 0} where
  -- one more place
  pub up_to_more : (P : ℕ → A → Type 0) (xs : List A) (n : ℕ) → ((k : ℕ) → k < n → IfSome (slice_get xs k) (P k))
      → IfSome (slice_get xs n) (P n) → (k : ℕ) → k < n + 1 → IfSome (slice_get xs k) (P k)
  up_to_more P xs n before here k lt =
      elim (split k n lt) [ inl e ↦ before k e | inr e ↦ subst (λ z. IfSome (slice_get xs z) (P z)) (sym e) here ]

  -- all places
  pub all_places : (P : ℕ → A → Type 0) (xs : List A) (n : ℕ) → length xs ≤ n
      → ((k : ℕ) → k < n → IfSome (slice_get xs k) (P k)) → (k : ℕ) → IfSome (slice_get xs k) (P k)
  all_places P [] n len f k = tt
  all_places P (x ∷ xs) n len f zero = f zero (omega (arith, len))
  all_places P (x ∷ xs) n len f (suc k) =
      all_places (λ z. P (suc z)) xs (n - 1) (omega (arith, len)) (λ z lt. f (suc z) (omega (arith, lt, len))) k

  -- one more element
  pub places_more : (P : ℕ → A → Type 0) (xs : List A) (x : A) → ((k : ℕ) → IfSome (slice_get xs k) (P k))
      → P (length xs) x → (k : ℕ) → IfSome (slice_get (xs ++ x ∷ []) k) (P k)
  places_more P [] x f p zero = p
  places_more P [] x f p (suc k) = tt
  places_more P (y ∷ ys) x f p zero = f zero
  places_more P (y ∷ ys) x f p (suc k) = places_more (λ z. P (suc z)) ys x (λ z. f (suc z)) p k

  -- there is an element
  pub some_place : (xs : List A) (k : ℕ) → k < length xs → (x : A) × (slice_get xs k ≡ Some x)
  some_place [] k lt = absurd (omega (arith, lt))
  some_place (x ∷ xs) zero lt = (x, refl)
  some_place (x ∷ xs) (suc k) lt = some_place xs k (omega (arith, lt))

  -- what holds of an element holds at its place
  pub at_place : (P : A → Type 0) (xs : List A) (k : ℕ) (x : A) → x ≡ get_or xs k x → P x → IfSome (slice_get xs k) P
  at_place P [] k x e p = tt
  at_place P (y ∷ ys) zero x e p = subst P e p
  at_place P (y ∷ ys) (suc k) x e p = at_place P ys k x e p
