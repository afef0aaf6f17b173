-- The verb of a request, and what its query says.
use Rattle.std.proofs.Common.{◌≡◌, ◌≢◌, ℕ, ◌⊎◌, ◌||◌, ◌==◌, inl, inr, Bool, true, false, List, [], ◌∷◌, ◌++◌, length, Option, Some, None, codes, bytes_eq, refl, sym, ap, ◌∙◌, subst, arith}
use Rattle.std.specs.List.{All}
use Rattle.std.proofs.lemmas.Bool.{cond-true, cond-false}
use Rattle.std.proofs.lemmas.List.Elements.{All-nil, All-cons, All-head, All-tail}
use Rattle.std.proofs.lemmas.Slice.Eq.{bytes_eq-Decides}
use Rattle.request_info.specs.Resource.{is_special_verb}
use Rattle.request_info.specs.Forms.{IsSpecialVerb, HasWatch}
use Rattle.request_info.specs.Watch.{text_of, first_value, is_yes, says_yes}
use Rattle.request_info.proofs.WatchLemmas.{first_hit, first_miss, first_none}

pub is_text : (a b : List ℕ) → a ≡ b → bytes_eq a b ≡ true
is_text a b e = (bytes_eq-Decides a b).1 e

pub isnt_text : (a b : List ℕ) → a ≢ b → bytes_eq a b ≡ false
isnt_text a b h = by_test (bytes_eq a b) refl
  where
    by_test : (t : Bool) → bytes_eq a b ≡ t → bytes_eq a b ≡ false
    by_test false e = e
    by_test true e = absurd (h ((bytes_eq-Decides a b).0 e))

pub special_is : (verb : List ℕ) → IsSpecialVerb verb → is_special_verb verb ≡ true
special_is verb (inl e) = rw e refl
special_is verb (inr e) = rw e refl

pub special_isnt : (verb : List ℕ) → (IsSpecialVerb verb → ⊥) → is_special_verb verb ≡ false
special_isnt verb h =
    let one = isnt_text verb (codes "watch") (λ e. h (inl e)) in
    let two = isnt_text verb (codes "proxy") (λ e. h (inr e)) in
    rw (one, two) refl

-- ---- the first pair named `watch`

abbrev Misses : (List ℕ × List ℕ) → Type 0
Misses p = text_of p.0 ≢ codes "watch"

longer : (pair : List ℕ × List ℕ) (pairs : List (List ℕ × List ℕ)) → Misses pair → HasWatch pairs → HasWatch (pair ∷ pairs)
longer pair pairs miss (before, after, found, are, none, named, says) =
    (pair ∷ before, after, found, ap (λ ps. pair ∷ ps) are, All-cons Misses pair before miss none, named, says)

pub watch_is : (pairs : List (List ℕ × List ℕ)) → says_yes (first_value (codes "watch") pairs) ≡ true → HasWatch pairs
watch_is [] e = absurd (cc (sym e ∙ ap says_yes (first_none (codes "watch") [] refl)))
watch_is (pair ∷ pairs) e = by_name (bytes_eq (text_of pair.0) (codes "watch")) refl (λ d. watch_is pairs d)
  where
    by_name : (t : Bool) → bytes_eq (text_of pair.0) (codes "watch") ≡ t
        → (says_yes (first_value (codes "watch") pairs) ≡ true → HasWatch pairs) → HasWatch (pair ∷ pairs)
    by_name true hit next =
        let found = first_hit (codes "watch") pair.0 pair.1 pairs (pair ∷ pairs) refl hit in
        ([], pairs, pair, refl, All-nil Misses, (bytes_eq-Decides (text_of pair.0) (codes "watch")).0 hit, sym (ap says_yes found) ∙ e)
    by_name false miss next =
        let later = first_miss (codes "watch") pair.0 pair.1 pairs (pair ∷ pairs) refl miss in
        longer pair pairs (λ same. absurd (cc (miss, is_text (text_of pair.0) (codes "watch") same))) (next (ap says_yes later ∙ e))

watch_after : (before after : List (List ℕ × List ℕ)) (pair : List ℕ × List ℕ) → All Misses before
    → text_of pair.0 ≡ codes "watch" → first_value (codes "watch") (before ++ pair ∷ after) ≡ Some (text_of pair.1)
watch_after [] after pair none named =
    first_hit (codes "watch") pair.0 pair.1 after (pair ∷ after) refl (is_text (text_of pair.0) (codes "watch") named)
watch_after (p ∷ before) after pair none named =
    sym (first_miss (codes "watch") p.0 p.1 (before ++ pair ∷ after) (p ∷ (before ++ pair ∷ after)) refl
    (isnt_text (text_of p.0) (codes "watch") (All-head Misses p before none)))
    ∙ watch_after before after pair (All-tail Misses p before none) named

pub watch_from : (pairs : List (List ℕ × List ℕ)) → HasWatch pairs → says_yes (first_value (codes "watch") pairs) ≡ true
watch_from pairs (before, after, pair, are, none, named, says) =
    ap (λ ps. says_yes (first_value (codes "watch") ps)) are ∙ ap says_yes (watch_after before after pair none named) ∙ says
