-- Steps of `first_value` along a list of pairs.
use Rattle.std.proofs.Common.{◌≡◌, ℕ, true, false, List, [], ◌∷◌, Some, None, bytes_eq, sym, ap, ◌∙◌}
use Rattle.std.proofs.lemmas.Bool.{cond-true, cond-false}
use Rattle.request_info.specs.Watch.{text_of, first_value}

pub first_hit : (name n v : List ℕ) (rest left : List (List ℕ × List ℕ)) → left ≡ (n, v) ∷ rest → bytes_eq (text_of n) name ≡ true → first_value name left ≡ Some (text_of v)
unfolding first_value
first_hit name n v rest left e hit = ap (first_value name) e ∙ cond-true _ _ _ hit

pub first_miss : (name n v : List ℕ) (rest left : List (List ℕ × List ℕ)) → left ≡ (n, v) ∷ rest → bytes_eq (text_of n) name ≡ false → first_value name rest ≡ first_value name left
unfolding first_value
first_miss name n v rest left e miss = sym (ap (first_value name) e ∙ cond-false _ _ _ miss)

pub first_none : (name : List ℕ) (left : List (List ℕ × List ℕ)) → left ≡ [] → first_value name left ≡ None
unfolding first_value
first_none name left e = ap (first_value name) e
