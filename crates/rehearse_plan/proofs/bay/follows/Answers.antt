use Rattle.std.proofs.Common.{arith, subst}
use Rattle.rehearse_plan.specs.Kinds.{kind_at}
use Rattle.rehearse_plan.specs.Requests.{number_of}
use Rattle.rehearse_plan.specs.Planned.{IsPlanned}
use Rattle.rehearse_plan.proofs.Places.{at_place, up_to_more, all_places}
use Rattle.rehearse_plan.proofs.bay.follows.Goals as goal

pub loop-turn-preserved : goal.loop-turn-preserved
loop-turn-preserved c =
    let x = c.index-exchanges-turn.result in
    let made = subst (λ kind. IsPlanned kind c.number_of-number.result x) c.at.ensures
    (c.in_ok-is_planned.ensures c.if-not-branch.false) in
    let here = subst (λ z. IsPlanned (kind_at c.args.plan.start z) z x) c.number_of-number.ensures.number made in
    up_to_more (λ k. IsPlanned (kind_at c.args.plan.start (number_of c.args.plan.bays c.args.bay k)) (number_of c.args.plan.bays c.args.bay k))
    c.args.exchanges.now c.loop-turn.turn c.loop-turn.invariant
    (at_place
    (IsPlanned (kind_at c.args.plan.start (number_of c.args.plan.bays c.args.bay c.loop-turn.turn)) (number_of c.args.plan.bays c.args.bay c.loop-turn.turn))
    c.args.exchanges.now c.loop-turn.turn x c.index-exchanges-turn.is here)

pub returns : goal.returns
returns c = λ e. record {
  all = omega (arith, c.if-exchanges-count.false, c.share-count.ensures);
  each = all_places
      (λ k. IsPlanned (kind_at c.args.plan.start (number_of c.args.plan.bays c.args.bay k)) (number_of c.args.plan.bays c.args.bay k))
      c.args.exchanges.now c.loop-turn.turn (omega (arith, c.if-exchanges-count.false, c.loop-turn-test.false)) c.loop-turn.invariant;
}
