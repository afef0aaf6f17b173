-- What can be decided, and of which texts it can be decided that they have two parts.
use Rattle.std.proofs.Common.{◌≡◌, ℕ, ◌≤◌, ◌∷◌, [], ◌++◌, List, length, Bool, true, false, refl, sym, ap, subst, inl, inr, arith, true≢false, eqb-true}
use Rattle.std.specs.Prelude.{◌⊎◌, ◌==◌}
use Rattle.std.proofs.lemmas.Bool.{eq-eqb}

abbrev pub Decided : Type 0 → Type 0
Decided P = P ⊎ (P → ⊥)

pub both : {P Q : Type 0} → Decided P → Decided Q → Decided (P × Q)
both (inl p) (inl q) = inl (p, q)
both (inl p) (inr q) = inr (λ h. q h.1)
both (inr p) q = inr (λ h. p h.0)

pub either : {P Q : Type 0} → Decided P → Decided Q → Decided (P ⊎ Q)
either (inl p) q = inl (inl p)
either (inr p) (inl q) = inl (inr q)
either {P} {Q} (inr p) (inr q) = inr none
  where
    none : P ⊎ Q → ⊥
    none (inl h) = p h
    none (inr h) = q h

-- the same said in other words
pub reworded : {P Q : Type 0} → (P → Q) → (Q → P) → Decided P → Decided Q
reworded to from (inl p) = inl (to p)
reworded to from (inr p) = inr (λ h. p (from h))

pub is_true : (b : Bool) → Decided (b ≡ true)
is_true true = inl refl
is_true false = inr (λ e. true≢false (sym e))

pub same_number : (m n : ℕ) → Decided (m ≡ n)
same_number m n = reworded (eqb-true m n) (eq-eqb m n) (is_true (m == n))

no_cons : (b : ℕ) (bs : List ℕ) → [] ≡ b ∷ bs → ⊥
no_cons b bs e = absurd (cc e)

pub same_text : (s t : List ℕ) → Decided (s ≡ t)
same_text [] [] = inl refl
same_text [] (b ∷ bs) = inr (no_cons b bs)
same_text (b ∷ bs) [] = inr (λ e. no_cons b bs (sym e))
same_text (a ∷ s) (b ∷ t) = reworded (λ h. together h.0 h.1) (λ e. (heads e, tails e)) (both (same_number a b) (same_text s t))
  where
    together : a ≡ b → s ≡ t → a ∷ s ≡ b ∷ t
    together e f = cc (e, f)

    heads : a ∷ s ≡ b ∷ t → a ≡ b
    heads e = cc e

    tails : a ∷ s ≡ b ∷ t → s ≡ t
    tails e = cc e

-- ---- texts of two parts

abbrev pub Cut : (List ℕ → Type 0) → (List ℕ → Type 0) → List ℕ → Type 0
Cut P Q text = (xs ys : List ℕ) × P xs × Q ys × (text ≡ xs ++ ys)

cut_later : (P Q : List ℕ → Type 0) (b : ℕ) (bs : List ℕ) → Cut (λ xs. P (b ∷ xs)) Q bs → Cut P Q (b ∷ bs)
cut_later P Q b bs s = (b ∷ s.0, s.1, s.2, s.3, ap (λ l. b ∷ l) s.4)

cut_nowhere : (P Q : List ℕ → Type 0) (b : ℕ) (bs : List ℕ) → (P [] × Q (b ∷ bs) → ⊥) → (Cut (λ xs. P (b ∷ xs)) Q bs → ⊥) → Cut P Q (b ∷ bs) → ⊥
cut_nowhere P Q b bs here later s = by_first s.0 s.1 s.2 s.3 s.4
  where
    by_first : (xs ys : List ℕ) → P xs → Q ys → b ∷ bs ≡ xs ++ ys → ⊥
    by_first [] ys p q e = here (p, subst Q (sym e) q)
    by_first (x ∷ xs) ys p q e =
        let head : x ≡ b = cc e in
        let tail : bs ≡ xs ++ ys = cc e in
        later (xs, ys, subst (λ k. P (k ∷ xs)) head p, q, tail)

cut_here : (P Q : List ℕ → Type 0) (b : ℕ) (bs : List ℕ) → Decided (P [] × Q (b ∷ bs)) → Decided (Cut (λ xs. P (b ∷ xs)) Q bs) → Decided (Cut P Q (b ∷ bs))
cut_here P Q b bs (inl h) later = inl ([], b ∷ bs, h.0, h.1, refl)
cut_here P Q b bs (inr here) (inl s) = inl (cut_later P Q b bs s)
cut_here P Q b bs (inr here) (inr later) = inr (cut_nowhere P Q b bs here later)

no_parts : (P Q : List ℕ → Type 0) → Cut P Q [] → P [] × Q []
no_parts P Q s = by_first s.0 s.1 s.2 s.3 s.4
  where
    by_first : (xs ys : List ℕ) → P xs → Q ys → [] ≡ xs ++ ys → P [] × Q []
    by_first [] ys p q e = (p, subst Q (sym e) q)
    by_first (x ∷ xs) ys p q e = absurd (no_cons x (xs ++ ys) e)

-- each place is tried
pub cut : (P Q : List ℕ → Type 0) (t : List ℕ) → ((xs : List ℕ) → Decided (P xs)) → ((ys : List ℕ) → length ys ≤ length t → Decided (Q ys)) → Decided (Cut P Q t)
cut P Q [] p q = reworded (λ h. ([], [], h.0, h.1, refl)) (no_parts P Q) (both (p []) (q [] (omega arith)))
cut P Q (b ∷ bs) p q = cut_here P Q b bs (both (p []) (q (b ∷ bs) (omega arith))) (cut (λ xs. P (b ∷ xs)) Q bs (λ xs. p (b ∷ xs)) (λ ys short. q ys (omega (arith, short))))

pub cut_any : (P Q : List ℕ → Type 0) (t : List ℕ) → ((xs : List ℕ) → Decided (P xs)) → ((ys : List ℕ) → Decided (Q ys)) → Decided (Cut P Q t)
cut_any P Q t p q = cut P Q t p (λ ys short. q ys)

-- a byte, and a text after it
pub after : (a : ℕ) (Q : List ℕ → Type 0) (b : ℕ) (bs : List ℕ) → Decided (Q bs) → Decided ((rest : List ℕ) × Q rest × (b ∷ bs ≡ a ∷ rest))
after a Q b bs q = reworded (λ h. (bs, h.1, ap (λ k. k ∷ bs) h.0)) back (both (same_number b a) q)
  where
    back : (rest : List ℕ) × Q rest × (b ∷ bs ≡ a ∷ rest) → (b ≡ a) × Q bs
    back (rest, h, e) =
        let head : b ≡ a = cc e in
        let tail : rest ≡ bs = cc e in
        (head, subst Q tail h)
