use Rattle.std.proofs.Common.{codes, sym, ap, ◌∙◌}
use Rattle.std.proofs.lemmas.Result.{IfOk-weaker}
use Rattle.request_info.specs.Watch as watch
use Rattle.request_info.proofs.WatchLemmas.{first_hit, first_miss, first_none}
use Rattle.request_info.proofs.watch.asks_watch.Goals as goal

pub returns-then-branch : goal.returns-then-branch
returns-then-branch c =
    let hit = sym c.in_ok-is_named_watch.ensures ∙ c.if-branch.true in
    let found = first_hit (codes "watch") _ _ _ _ c.in-Some.ensures.steps hit in
    IfOk-weaker c.says_yes.result _ _ (λ b e. e ∙ sym (ap watch.says_yes (sym c.loop-name.invariant.2 ∙ found))) c.says_yes.ensures

pub loop-name-preserved : goal.loop-name-preserved
loop-name-preserved c =
    let miss = sym c.in_ok-is_named_watch.ensures ∙ c.if-branch.false in
    (tt, tt, first_miss (codes "watch") _ _ _ _ c.in-Some.ensures.steps miss ∙ c.loop-name.invariant.2)

pub returns : goal.returns
returns c =
    sym (ap watch.says_yes (sym c.loop-name.invariant.2 ∙ first_none (codes "watch") _ c.in-None.ensures.steps.0))
