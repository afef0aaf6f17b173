use Rattle.std.proofs.Common.{◌≡◌, ◌+◌, ℕ, List, [], ◌∷◌, length, refl, All}
use Rattle.std.specs.Fmt.{digits}
use Rattle.std.specs.Prelude.{⊤}
use Rattle.std.proofs.lemmas.List.Elements.{All-nil, All-cons}
use Rattle.local_replies.specs.Status.{cause_of, refusal_text, status_text, told_codes}
use Rattle.local_replies.proofs.laws.lengths_of_refusals.Goals as goal

abbrev HasLength : ℕ → Type 0
HasLength code = length (refusal_text code) ≡ 104 + length (cause_of code).reason + length (cause_of code).message

-- one after another
abbrev EachHasLength : List ℕ → Type 0
EachHasLength [] = ⊤
EachHasLength (code ∷ codes) = HasLength code × EachHasLength codes

all_have : (codes : List ℕ) → EachHasLength codes → All HasLength codes
all_have [] each = All-nil HasLength
all_have (code ∷ codes) each = All-cons HasLength code codes each.0 (all_have codes each.1)

pub returns-clause-acting : goal.returns-clause-acting
unfolding status_text digits
returns-clause-acting c = refl

pub returns-clause-told : goal.returns-clause-told
unfolding cause_of status_text digits
returns-clause-told c =
    all_have told_codes
    (refl, (refl, (refl, (refl, (refl, (refl, (refl, (refl, (refl, (refl, (refl, (refl, (refl, (refl, tt))))))))))))))
