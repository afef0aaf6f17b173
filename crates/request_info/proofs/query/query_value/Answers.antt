use Rattle.std.proofs.Common.{sym, ◌∙◌}
use Rattle.std.proofs.lemmas.Result.{IfOk-weaker}
use Rattle.request_info.proofs.WatchLemmas.{first_hit, first_miss, first_none}
use Rattle.request_info.proofs.query.query_value.Goals as goal

pub returns-then-branch : goal.returns-then-branch
returns-then-branch c =
    let hit = sym c.in_ok-is_named.ensures ∙ c.if-branch.true in
    let found = first_hit _ _ _ _ _ c.in-Some.ensures.steps hit in
    IfOk-weaker c.some_text.result _ _ (λ n e. e ∙ sym (sym c.loop-spelled.invariant.2 ∙ found)) c.some_text.ensures

pub loop-spelled-preserved : goal.loop-spelled-preserved
loop-spelled-preserved c =
    let miss = sym c.in_ok-is_named.ensures ∙ c.if-branch.false in
    (tt, tt, first_miss _ _ _ _ _ c.in-Some.ensures.steps miss ∙ c.loop-spelled.invariant.2)

pub returns : goal.returns
returns c =
    sym (sym c.loop-spelled.invariant.2 ∙ first_none _ _ c.in-None.ensures.steps.0)
