use Rattle.std.proofs.Common.{sym, ap, ◌∙◌}
use Rattle.std.proofs.lemmas.Result.{IfOk-weaker}
use Rattle.request_info.specs.Selection.{name_if_any}
use Rattle.request_info.proofs.SelectorLemmas.{selector_hit, selector_miss, selector_none}
use Rattle.request_info.proofs.selection.selected_name.Goals as goal

pub returns-then-branch : goal.returns-then-branch
returns-then-branch c =
    let hit = sym c.in_ok-is_field_selector.ensures ∙ c.if-branch.true in
    let found = selector_hit _ _ _ _ c.in-Some.ensures.steps hit in
    IfOk-weaker c.name_in.result _ _ (λ n e. e ∙ sym (ap name_if_any (sym c.loop-name.invariant.2 ∙ found))) c.name_in.ensures

pub loop-name-preserved : goal.loop-name-preserved
loop-name-preserved c =
    let miss = sym c.in_ok-is_field_selector.ensures ∙ c.if-branch.false in
    (tt, tt, selector_miss _ _ _ _ c.in-Some.ensures.steps miss ∙ c.loop-name.invariant.2)

pub returns : goal.returns
returns c =
    sym (ap name_if_any (sym c.loop-name.invariant.2 ∙ selector_none _ c.in-None.ensures.steps.0))
