use Rattle.std.proofs.Common.{◌≡◌, ℕ, List, [], Option, Some, sym, ap, ◌∙◌}
use Rattle.std.specs.Prelude.{unwrap_or}
use Rattle.apiservice_table.specs.Changes as table
use Rattle.apiservice_table.specs.Changes.{patched, patch_refusal, unless_made}
use Rattle.apiservice_table.specs.declared.change.Change.TheVariants.{Patch}
use Rattle.apiservice_table.specs.declared.change.ChangeFault.{ChangeFault}
use Rattle.apiservice_table.specs.declared.change.ChangeFault.TheVariants.{Invalid}
use Rattle.local_replies.specs.Looked.{found, looked}
use Rattle.local_replies.specs.Serve.{change_reply, rows_with}
use Rattle.local_replies.specs.Status.{json_reply}
use Rattle.local_replies.specs.declared.local.Local.TheVariants.{OneService}
use Rattle.local_replies.proofs.laws.a_patch_is_answered_its_object.Goals as goal

pub returns-clause-made : goal.returns-clause-made
returns-clause-made c = λ local name patch rows new made.
    let law = c.a_patch_leaves_its_object.ensures in
    ap (change_reply rows (Patch name patch)) (law.taken name patch rows new made)
    ∙ ap (λ (left : Option (List ℕ)). json_reply 200 (unwrap_or left [])) (law.left name patch rows new made)

pub returns-clause-seen : goal.returns-clause-seen
returns-clause-seen c = λ local name patch rows new made.
    let law = c.a_patch_leaves_its_object.ensures in
    ap (change_reply rows (Patch name patch)) (law.taken name patch rows new made)
    ∙ ap (λ (left : Option (List ℕ)). json_reply 200 (unwrap_or left [])) (law.left name patch rows new made)
    ∙ sym
    (ap (λ (fault : Option ChangeFault). looked (OneService name) (rows_with rows (Patch name patch) fault)) (law.taken name patch rows new made)
    ∙ ap found (law.left name patch rows new made))

pub returns-clause-refused : goal.returns-clause-refused
returns-clause-refused c = λ local name patch rows own there none.
    let due : table.refusal rows (Patch name patch) ≡ Some Invalid =
    ap (patch_refusal name patch) there ∙ ap unless_made (sym (ap (patched name patch) there) ∙ none) in
    (ap (change_reply rows (Patch name patch)) due, ap (rows_with rows (Patch name patch)) due)
