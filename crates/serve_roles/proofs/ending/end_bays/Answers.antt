use Rattle.std.proofs.Common.{rules, arith, ap, map, ◌∙◌, ◌≡◌, length}
use Rattle.serve_roles.specs.Ends.{bay_end, log_lane, hook_lane}
use Rattle.serve_roles.proofs.WalkLemmas.{next_whole, image_more, all_of}
use Rattle.serve_roles.proofs.ending.end_bays.Goals as goal

pub loop-role-preserved : goal.loop-role-preserved
loop-role-preserved g c =
    let i = c.loop-role.invariant in
    let e = c.end_bay-end.ensures in
    let p = c.push_reserved.ensures in
    let q = c.push_reserved-in-loop-role.ensures in
    let r = c.push_reserved-in-loop-role-2.ensures in
    record {
      whole = next_whole c.args.bays.items c.loop-role.yielded _ _ c.in-Some.role i.whole c.in-Some.ensures.steps.0;
      ends = image_more bay_end c.loop-role.yielded c.in-Some.role _ _ c.end_bay-end.result.0 i.ends p.items e.end;
      logs = image_more log_lane c.loop-role.yielded c.in-Some.role _ _ c.end_bay-end.result.1 i.logs q.items e.lanes.0;
      hooks = image_more hook_lane c.loop-role.yielded c.in-Some.role _ _ c.end_bay-end.result.2 i.hooks r.items e.lanes.1;
      ends_room = search (rules, p.capacity, i.ends_room);
      logs_room = search (rules, q.capacity, i.logs_room);
      hooks_room = search (rules, r.capacity, i.hooks_room);
    }

pub returns-clause-ends : goal.returns-clause-ends
returns-clause-ends g c =
    let i = c.loop-role.invariant in
    let z : length c.loop-role.role-iterator.rest.items ≡ 0 = omega (arith, c.loop-role.role-iterator.rest.ok.0, c.in-None.ensures.steps.0) in
    i.ends ∙ ap (map bay_end) (all_of c.args.bays.items c.loop-role.yielded c.loop-role.role-iterator.rest.items i.whole z)

pub returns-clause-logs : goal.returns-clause-logs
returns-clause-logs g c =
    let i = c.loop-role.invariant in
    let z : length c.loop-role.role-iterator.rest.items ≡ 0 = omega (arith, c.loop-role.role-iterator.rest.ok.0, c.in-None.ensures.steps.0) in
    i.logs ∙ ap (map log_lane) (all_of c.args.bays.items c.loop-role.yielded c.loop-role.role-iterator.rest.items i.whole z)

pub returns-clause-hooks : goal.returns-clause-hooks
returns-clause-hooks g c =
    let i = c.loop-role.invariant in
    let z : length c.loop-role.role-iterator.rest.items ≡ 0 = omega (arith, c.loop-role.role-iterator.rest.ok.0, c.in-None.ensures.steps.0) in
    i.hooks ∙ ap (map hook_lane) (all_of c.args.bays.items c.loop-role.yielded c.loop-role.role-iterator.rest.items i.whole z)
