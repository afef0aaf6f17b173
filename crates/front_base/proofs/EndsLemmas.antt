-- Slashes at the ends of a text.
use Rattle.std.proofs.Common.{◌≡◌, ℕ, true, false, List, [], ◌∷◌, ◌++◌, nat_eq, refl, ap, sym, ◌∙◌, ⊎_elim, arith}
use Rattle.std.proofs.lemmas.Bool.{cond-true, cond-false, cases_Bool}
use Rattle.std.proofs.lemmas.Bool.Decides.{nat_tests}
use Rattle.front_base.specs.Ends.{without_start, without_end, before}

apart_test : (x b : ℕ) → (x ≡ b → ⊥) → nat_eq x b ≡ false
apart_test x b apart = grind (arith, nat_tests)

pub front_slash : (text : List ℕ) → without_start (47 ∷ text) ≡ without_start text
unfolding without_start
front_slash text = refl

front_kept : (b : ℕ) (text : List ℕ) → nat_eq b 47 ≡ false → without_start (b ∷ text) ≡ b ∷ text
unfolding without_start
front_kept b text e = cond-false _ _ _ e

front_none : without_start [] ≡ []
unfolding without_start
front_none = refl

-- a text that begins with no slash
pub no_front : (text : List ℕ) → ((rest : List ℕ) → text ≡ 47 ∷ rest → ⊥) → without_start text ≡ text
no_front [] none = front_none
no_front (b ∷ text) none = front_kept b text (apart_test b 47 (λ e. none text (ap (λ z. z ∷ text) e)))

end_none : without_end [] ≡ []
unfolding without_end
end_none = refl

end_step : (b : ℕ) (text : List ℕ) → without_end (b ∷ text) ≡ before b (without_end text)
unfolding without_end
end_step b text = refl

pub end_slash : (text : List ℕ) → without_end (text ++ 47 ∷ []) ≡ without_end text
end_slash [] = end_step 47 [] ∙ ap (before 47) end_none ∙ sym end_none
end_slash (b ∷ text) = end_step b (text ++ 47 ∷ []) ∙ ap (before b) (end_slash text) ∙ sym (end_step b text)

before_kept : (b : ℕ) (text : List ℕ) → ((text ≡ []) → (b ≡ 47) → ⊥) → before b text ≡ b ∷ text
before_kept b [] none = cond-false _ _ _ (apart_test b 47 (none refl))
before_kept b (next ∷ text) none = refl

-- a text that ends with no slash
pub no_end : (text : List ℕ) → ((rest : List ℕ) → text ≡ rest ++ 47 ∷ [] → ⊥) → without_end text ≡ text
no_end [] none = end_none
no_end (b ∷ text) none =
    end_step b text
    ∙ ap (before b) (no_end text (λ rest e. none (b ∷ rest) (ap (λ t. b ∷ t) e)))
    ∙ before_kept b text (λ nothing slash. none [] (ap (λ t. b ∷ t) nothing ∙ ap (λ z. z ∷ []) slash))

front_of_end : (b : ℕ) (text : List ℕ) → nat_eq b 47 ≡ true → without_start (b ∷ text) ≡ without_start text
unfolding without_start
front_of_end b text e = cond-true _ _ _ e

-- a slash more at the end of what has lost those in front
pub trimmed_end : (text : List ℕ) → without_end (without_start (text ++ 47 ∷ [])) ≡ without_end (without_start text)
trimmed_end [] = ap without_end (front_slash [] ∙ front_none) ∙ sym (ap without_end front_none)
trimmed_end (b ∷ text) =
    ⊎_elim
    (λ (e : nat_eq b 47 ≡ true). ap without_end (front_of_end b (text ++ 47 ∷ []) e) ∙ trimmed_end text
    ∙ sym (ap without_end (front_of_end b text e)))
    (λ (e : nat_eq b 47 ≡ false). ap without_end (front_kept b (text ++ 47 ∷ []) e) ∙ end_slash (b ∷ text)
    ∙ sym (ap without_end (front_kept b text e)))
    (cases_Bool (nat_eq b 47))
