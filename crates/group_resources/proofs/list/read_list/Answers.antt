use Rattle.std.proofs.Common.{◌≡◌, ℕ, List, subst, sym, ◌∙◌}
use Rattle.std.proofs.lemmas.Result.{IfOk-weaker}
use Rattle.json_span.specs.Value.{StandsFor, flat}
use Rattle.group_resources.proofs.MemberLemmas.{listed, not_listed}
use Rattle.group_resources.proofs.list.read_list.Goals as goal

pub returns-in-Err-NotJson : goal.returns-in-Err-NotJson
returns-in-Err-NotJson c =
    not_listed c.args.group_version.now c.args.body.now c.args.status
    (rw c.in-Err-NotJson.field-0-is at c.in-Err-NotJson.ensures.err).refused

pub returns : goal.returns
returns c =
    let k = c.in-Ok.ensures.ok in
    let is : c.as_slice.result.now ≡ flat k.0 = c.as_slice.ensures.value ∙ k.2 in
    let stands : StandsFor c.as_slice.result.now k.0 =
    subst (λ (b : List ℕ). StandsFor b k.0) (sym is) (c.compact_keeps_the_value.ensures c.args.body.now k.0 k.1) in
    IfOk-weaker c.resources_in.result _ _
    (λ got said. listed c.args.group_version.now c.args.body.now c.args.status k.0 got c.if-status-ne200.false c.if-body-gt-MOST_LIST_BYTES.false k.1
    c.one_value.ensures said)
    (c.resources_in.ensures k.0 stands is)
