-- What a text has behind a front.
use Rattle.std.proofs.Common.{◌≡◌, ◌⊎◌, inl, inr, ℕ, true, false, List, [], ◌∷◌, ◌++◌, Some, None, nat_eq, refl, ap, sym, ◌∙◌, ⊎_elim, arith, eq-eqb}
use Rattle.std.proofs.lemmas.Bool.{cond-true, cond-false, cases_Bool}
use Rattle.std.proofs.lemmas.Bool.Decides.{nat_tests}
use Rattle.local_replies.specs.Paths.{behind}

pub apart_test : (x b : ℕ) → (x ≡ b → ⊥) → nat_eq x b ≡ false
apart_test x b apart = grind (arith, nat_tests)

pub same_or_apart : (x b : ℕ) → (x ≡ b) ⊎ (x ≡ b → ⊥)
same_or_apart x b =
    ⊎_elim (λ (e : nat_eq x b ≡ true). inl (grind (arith, nat_tests)))
    (λ (e : nat_eq x b ≡ false). inr (λ same. grind (arith, nat_tests))) (cases_Bool (nat_eq x b))

pub behind_same : (x b : ℕ) (front text : List ℕ) → x ≡ b → behind (x ∷ front) (b ∷ text) ≡ behind front text
unfolding behind
behind_same x b front text e = cond-true _ _ _ (eq-eqb x b e)

pub behind_apart : (x b : ℕ) (front text : List ℕ) → (x ≡ b → ⊥) → behind (x ∷ front) (b ∷ text) ≡ None
unfolding behind
behind_apart x b front text apart = cond-false _ _ _ (apart_test x b apart)

pub behind_nothing : (x : ℕ) (front : List ℕ) → behind (x ∷ front) [] ≡ None
unfolding behind
behind_nothing x front = refl

pub behind_all : (text : List ℕ) → behind [] text ≡ Some text
unfolding behind
behind_all text = refl

pub behind-append : (front rest : List ℕ) → behind front (front ++ rest) ≡ Some rest
behind-append [] rest = behind_all rest
behind-append (x ∷ front) rest = behind_same x x front (front ++ rest) refl ∙ behind-append front rest

pub behind_found : (front text rest : List ℕ) → text ≡ front ++ rest → behind front text ≡ Some rest
behind_found front text rest e = ap (behind front) e ∙ behind-append front rest

pub behind_missing : (front text : List ℕ) → ((rest : List ℕ) → text ≡ front ++ rest → ⊥) → behind front text ≡ None
behind_missing [] text none = absurd (none text refl)
behind_missing (x ∷ front) [] none = behind_nothing x front
behind_missing (x ∷ front) (b ∷ text) none =
    ⊎_elim
    (λ (e : x ≡ b). behind_same x b front text e
    ∙ behind_missing front text (λ rest q. none rest (ap (λ z. z ∷ text) (sym e) ∙ ap (λ t. x ∷ t) q)))
    (λ (apart : x ≡ b → ⊥). behind_apart x b front text apart)
    (same_or_apart x b)
