-- Steps of `first_selector` along a list of pairs.
use Rattle.std.proofs.Common.{◌≡◌, ℕ, Bool, true, false, List, [], ◌∷◌, ◌++◌, Option, Some, None, refl, sym, ap, ◌∙◌}
use Rattle.std.specs.Prelude.{◌&&◌, ◌||◌, not, bytes_eq, codes, if◌then◌else◌}
use Rattle.std.proofs.lemmas.Bool.{cond-true, cond-false}
use Rattle.request_info.specs.Selection.{first_selector, is_field_selector, is_selecting, is_selector, is_trial}
use Rattle.request_info.specs.Watch.{text_of}

pub selector_hit : (n v : List ℕ) (rest left : List (List ℕ × List ℕ)) → left ≡ (n, v) ∷ rest
    → is_field_selector (text_of n) (text_of v) ≡ true → first_selector left ≡ Some (text_of v)
unfolding first_selector
selector_hit n v rest left e hit = ap first_selector e ∙ cond-true _ _ _ hit

pub selector_miss : (n v : List ℕ) (rest left : List (List ℕ × List ℕ)) → left ≡ (n, v) ∷ rest
    → is_field_selector (text_of n) (text_of v) ≡ false → first_selector rest ≡ first_selector left
unfolding first_selector
selector_miss n v rest left e miss = sym (ap first_selector e ∙ cond-false _ _ _ miss)

pub selector_none : (left : List (List ℕ × List ℕ)) → left ≡ [] → first_selector left ≡ None
unfolding first_selector
selector_none left e = ap first_selector e

-- ---- empty selectors

and_false : (b : Bool) → (b && false) ≡ false
and_false true = refl
and_false false = refl

empty_is_no_selector : (name value : List ℕ) → value ≡ [] → is_field_selector name value ≡ false
empty_is_no_selector name value e =
    ap (λ (v : List ℕ). is_field_selector name v) e ∙ and_false (bytes_eq name (codes "fieldSelector"))

pub empty_is_none : (before after : List (List ℕ × List ℕ)) (pair : List ℕ × List ℕ) → text_of pair.1 ≡ []
    → first_selector (before ++ pair ∷ after) ≡ first_selector (before ++ after)
unfolding first_selector
empty_is_none [] after pair empty = cond-false _ _ _ (empty_is_no_selector (text_of pair.0) (text_of pair.1) empty)
empty_is_none (first ∷ before) after pair empty =
    ap (λ (found : Option (List ℕ)). if is_field_selector (text_of first.0) (text_of first.1) then Some (text_of first.1) else found)
    (empty_is_none before after pair empty)

pub empty_asks_all : (name : List ℕ) → is_trial name ≡ false → is_selecting name [] ≡ false
empty_asks_all name plain =
    ap (λ (b : Bool). (b && not (bytes_eq [] (codes "All"))) || (is_selector name && false)) plain ∙ and_false (is_selector name)
