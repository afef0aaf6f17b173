use Rattle.std.proofs.Common.{rules, arith, ap, sym, ◌∙◌, ◌++◌, [], length}
use Rattle.sink_lanes.specs.Ends.{some_first, queued_parts, own_parts}
use Rattle.sink_lanes.proofs.Parts.{next_whole, next_below, queued_snoc, own_snoc, few_queued, few_own}
use Rattle.sink_lanes.proofs.ending.part_lanes.Goals as goal

pub loop-lane-preserved : goal.loop-lane-preserved
loop-lane-preserved g c =
    let i = c.loop-lane.invariant in
    let p = c.push_some.ensures in
    let q = c.push_some-in-loop-lane.ensures in
    let e = c.part_lane-part.ensures in
    record {
      whole = next_whole c.args.lanes.items c.loop-lane.yielded _ _ c.in-Some.lane i.whole c.in-Some.ensures.steps.0;
      queued = p.items ∙ (ap (λ z. z ++ some_first c.part_lane-part.result.0 []) i.queued ∙ (ap (λ o. queued_parts c.loop-lane.yielded ++ some_first o []) e.0 ∙ sym (queued_snoc c.loop-lane.yielded c.in-Some.lane)));
      own = q.items ∙ (ap (λ z. z ++ some_first c.part_lane-part.result.1 []) i.own ∙ (ap (λ o. own_parts c.loop-lane.yielded ++ some_first o []) e.1 ∙ sym (own_snoc c.loop-lane.yielded c.in-Some.lane)));
      queued_room = search (rules, p.room, i.queued_room);
      own_room = search (rules, q.room, i.own_room);
    }

pub push_some-requires : goal.push_some-requires
push_some-requires g c =
    let i = c.loop-lane.invariant in
    let lt = next_below c.args.lanes.items c.loop-lane.yielded _ _ c.in-Some.lane i.whole c.in-Some.ensures.steps.0 in
    let few = few_queued c.loop-lane.yielded in
    omega (arith, lt, few, ap length i.queued, i.queued_room)

pub push_some-requires-in-loop-lane : goal.push_some-requires-in-loop-lane
push_some-requires-in-loop-lane g c =
    let i = c.loop-lane.invariant in
    let lt = next_below c.args.lanes.items c.loop-lane.yielded _ _ c.in-Some.lane i.whole c.in-Some.ensures.steps.0 in
    let few = few_own c.loop-lane.yielded in
    omega (arith, lt, few, ap length i.own, i.own_room)
