use Rattle.std.proofs.Common.{rules, arith, ap, sym, subst, ◌∙◌, ◌≡◌, ◌∷◌, [], ◌≤◌, length, length-append, IfSome}
use Rattle.shared_queue.specs.declared.making.TheConstants.{MOST_ALLOTTED}
use Rattle.serve_bays.specs.LaneCalls.{allot_calls}
use Rattle.serve_bays.proofs.CallLemmas.{joins_as, allot_more}
use Rattle.serve_bays.proofs.Lists.{all_more}
use Rattle.serve_bays.proofs.Walks.{each_more}
use Rattle.serve_bays.proofs.lanes.ask_allotments.Goals as goal

pub loop-bay-preserved : goal.loop-bay-preserved
loop-bay-preserved g c =
    let i = c.loop-bay.invariant in
    let e = c.push_reserved.ensures in
    record {
      count = omega (arith, ap length e.items, length-append c.loop-bay.allots.items (c.allot.result ∷ []), i.count);
      room = search (rules, e.capacity, i.room);
      most = all_more (λ n. n ≤ MOST_ALLOTTED) _ _ c.allot.result e.items i.most c.allot.ensures.most;
      fixed = each_more (λ bay allotment. IfSome (g.P.Plant.opens.allots bay) (λ own. allotment ≡ own)) c.loop-bay.allots.items _ c.allot.result e.items i.fixed
          (subst (λ bay. IfSome (g.P.Plant.opens.allots bay) (λ own. c.allot.result ≡ own)) (sym i.count) c.allot.ensures.fixed);
      faults = c.allot.ensures.faults ∙ i.faults;
      made = joins_as _ _ _ _ _ _ i.made c.allot.ensures.called.made
          (ap (allot_calls 0) e.items ∙ allot_more 0 c.loop-bay.bay c.loop-bay.allots.items c.allot.result (omega (arith, i.count)));
      due = c.allot.ensures.called.due ∙ i.due;
    }
