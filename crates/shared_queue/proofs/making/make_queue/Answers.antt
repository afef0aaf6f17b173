use Rattle.std.proofs.Common.{ap, ◌∙◌, sym, arith, length-append}
use Rattle.std.proofs.lemmas.Grind.{common_steps}
use Rattle.shared_queue.specs.declared.views.View.{View}
use Rattle.shared_queue.proofs.Steps.{forks_outlet}
use Rattle.shared_queue.proofs.Each.{each_more}
use Rattle.shared_queue.proofs.making.make_queue.Goals as goal

pub another-pass-requires-clause-rule : goal.another-pass-requires-clause-rule
another-pass-requires-clause-rule g c = forks_outlet _ _ (ap (λ (v : View). v.pops) c.in_ok-queue.ensures.2)

pub loop-bay-preserved : goal.loop-bay-preserved
loop-bay-preserved g c = let m = c.in_ok-lane.ensures.maker in let l = c.in_ok-lane.ensures.lane in record {
  tied = m.0;
  outlet_tied = c.loop-bay.invariant.outlet_tied;
  capacity = c.loop-bay.invariant.capacity;
  maker = m.2;
  outlet = c.loop-bay.invariant.outlet;
  count = grind (arith, common_steps, length-append, c.in_ok-push.ensures.items, c.loop-bay.invariant.count);
  lanes = each_more _ _ _ _ _ c.in_ok-push.ensures.items c.loop-bay.invariant.count c.loop-bay.invariant.lanes (l.0, l.1, l.2, l.3 ∙ (c.loop-bay.invariant.tied.0 ∙ sym c.loop-bay.invariant.outlet_tied.0), l.4);
}
