use Rattle.std.proofs.Common.{◌≡◌, arith, subst, get_or}
use Rattle.rehearse_plan.specs.Planned.{Follows}
use Rattle.rehearse_plan.proofs.Places.{at_place, up_to_more, all_places}
use Rattle.rehearse_runs.proofs.run.all_follow.Goals as goal

pub loop-bay-preserved : goal.loop-bay-preserved
loop-bay-preserved g c =
    let end = c.index-bays-from.result in
    let is = subst (λ z. end ≡ get_or c.args.bays.now z end) c.from.ensures c.index-bays-from.is in
    up_to_more (λ k end. Follows c.args.plan.start c.args.plan.count c.args.plan.bays k (g.Y.ReadDiary.told end.diary))
    c.args.bays.now c.loop-bay.bay c.loop-bay.invariant
    (at_place (λ end. Follows c.args.plan.start c.args.plan.count c.args.plan.bays c.loop-bay.bay (g.Y.ReadDiary.told end.diary))
    c.args.bays.now c.loop-bay.bay end is
    (subst (Follows c.args.plan.start c.args.plan.count c.args.plan.bays c.loop-bay.bay) c.exchanges.ensures
    (c.in_ok-follows.ensures c.if-not-branch.false)))

pub returns : goal.returns
returns g c = λ e.
    all_places (λ k end. Follows c.args.plan.start c.args.plan.count c.args.plan.bays k (g.Y.ReadDiary.told end.diary))
    c.args.bays.now c.loop-bay.bay (omega (arith, c.requires.bays, c.loop-bay-test.false)) c.loop-bay.invariant
