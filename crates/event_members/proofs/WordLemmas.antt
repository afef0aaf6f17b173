-- Words at the front of bytes.
use Rattle.std.proofs.Common.{◌≡◌, ◌≢◌, ℕ, Bool, true, false, cond, List, [], ◌∷◌, ◌++◌, Option, Some, None, refl, ap, sym, ◌∙◌, arith}
use Rattle.std.specs.Prelude.{◌==◌}
use Rattle.std.proofs.lemmas.Bool.Decides.{nat_tests}
use Rattle.std.specs.Borrow.{Bor}
use Rattle.std.specs.Option.{MatchOption}
use Rattle.event_members.specs.TextMembers.{after_word, IsAfter}

same : (a : ℕ) → (a == a) ≡ true
same a = grind (arith, nat_tests)

equal : (a b : ℕ) → (a == b) ≡ true → a ≡ b
equal a b e = grind (arith, nat_tests)

pub word_again : (word rest : List ℕ) → after_word word (word ++ rest) ≡ Some rest
word_again [] rest = refl
word_again (w ∷ ws) rest = rw (same w) (word_again ws rest)

pub no_word : (word bytes : List ℕ) → ((rest : List ℕ) → bytes ≢ word ++ rest) → after_word word bytes ≡ None
no_word [] bytes none = absurd (none bytes refl)
no_word (w ∷ ws) [] none = refl
no_word (w ∷ ws) (b ∷ bs) none = first (no_word ws bs) (w == b) refl
  where
    first : (((rest : List ℕ) → bs ≢ ws ++ rest) → after_word ws bs ≡ None) → (t : Bool) → (w == b) ≡ t → cond t (after_word ws bs) None ≡ None
    first more false e = refl
    first more true e = more (λ rest h. none rest (ap (λ l. b ∷ l) h ∙ ap (λ c. c ∷ (ws ++ rest)) (sym (equal w b e))))

pub is_after : (word bytes : List ℕ) (r : Option (Bor (List ℕ))) → MatchOption r ((rest : List ℕ) → bytes ≢ word ++ rest) (λ x. bytes ≡ word ++ x.now)
    → IsAfter r (after_word word bytes)
is_after word bytes None h = no_word word bytes h
is_after word bytes (Some x) h = ap (after_word word) h ∙ word_again word x.now
