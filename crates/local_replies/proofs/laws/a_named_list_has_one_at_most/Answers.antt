use Rattle.std.proofs.Common.{◌≡◌, ℕ, List, [], ◌∷◌, Option, Some, None, refl, ap, ◌∙◌, append-nil}
use Rattle.std.specs.Prelude.{option_map}
use Rattle.apiservice_rows.specs.Row.{Row}
use Rattle.apiservice_table.specs.Services.{service_list_text}
use Rattle.local_replies.specs.Looked.{named_list_text}
use Rattle.local_replies.specs.Status.{json_reply}
use Rattle.local_replies.proofs.laws.a_named_list_has_one_at_most.Goals as goal

listed_one : (row : Row) → named_list_text (Some row.object) ≡ service_list_text (row ∷ [])
unfolding named_list_text service_list_text
listed_one row = simp append-nil

listed_none : named_list_text None ≡ service_list_text []
unfolding named_list_text service_list_text
listed_none = refl

abbrev object_in : Option Row → Option (List ℕ)
object_in found = option_map (λ (row : Row). row.object) found

pub returns-clause-one : goal.returns-clause-one
returns-clause-one c = λ name rows row e.
    ap (λ x. json_reply 200 (named_list_text (object_in x))) e ∙ ap (json_reply 200) (listed_one row)

pub returns-clause-none : goal.returns-clause-none
returns-clause-none c = λ name rows e.
    ap (λ x. json_reply 200 (named_list_text (object_in x))) e ∙ ap (json_reply 200) listed_none
