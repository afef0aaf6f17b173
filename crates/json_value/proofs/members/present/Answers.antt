use Rattle.std.proofs.Common.{ap, ◌∙◌}
use Rattle.std.specs.Prelude.{option_and_then}
use Rattle.serde_json.specs.View.{view}
use Rattle.json_value.specs.Members.{not_null}
use Rattle.json_value.proofs.SizeLemmas.{found_inside}
use Rattle.json_value.proofs.members.present.Goals as goal

pub returns : goal.returns
returns c =
    let is = c.not_null.ensures ∙ ap (option_and_then not_null) c.get.ensures in
    record { value = is; few = found_inside (λ v. view v.now) c.not_null.result c.args.name.now (view c.args.value.now) is }
