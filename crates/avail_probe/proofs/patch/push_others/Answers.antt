use Rattle.avail_probe.proofs.PatchLemmas.{all_passed, next_passed}
use Rattle.avail_probe.proofs.patch.push_others.Goals as goal

pub loop-condition-preserved : goal.loop-condition-preserved
loop-condition-preserved c =
    next_passed c.args.conditions.now c.loop-condition.condition-index c.condition-item.result _ _ _ c.loop-condition-test.true c.condition-item.is
    c.in_ok-push_other.ensures c.loop-condition.invariant

pub returns : goal.returns
returns c = all_passed c.args.conditions.now c.loop-condition.condition-index _ _ c.loop-condition-test.false c.loop-condition.invariant
