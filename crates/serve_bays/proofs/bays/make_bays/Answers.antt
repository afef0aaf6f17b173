use Rattle.std.proofs.Common.{rules, arith, refl, sym, ap, subst, ◌∙◌, ◌≡◌, ◌+◌, ◌-◌, ◌++◌, ◌∷◌, [], suc, length, length-append, map, slice_get, IfSome}
use Rattle.std.specs.Arc.{arc_value}
use Rattle.serve_bays.specs.LaneCalls.{CallsPart}
use Rattle.serve_bays.specs.Bays.{IsNewBay, routes_of}
use Rattle.serve_bays.specs.BayCalls.{bay_calls, bays_calls}
use Rattle.serve_bays.proofs.CallLemmas.{on_err}
use Rattle.serve_bays.proofs.Walks.{walk_next, walk_more, walk_end, next_whole, next_below, all_of, each_more, some_left, none_left, image_more, one_longer, bays_more, bays_split}
use Rattle.serve_bays.proofs.bays.make_bays.Goals as goal
use Rattle.serve_roles.specs.Doors.{bay_handles}
use Rattle.serve_roles.specs.Ends.{log_lane, hook_lane}
use Rattle.serve_roles.specs.Ready.{TakesLines}
use Rattle.truncate_backend.specs.Told.{Joined}

pub loop-table-init : goal.loop-table-init
loop-table-init g c =
    let none = c.in-Ok.ensures.items in
    let New = IsNewBay (bay_handles g.R.Routes g.P.L.Dial g.P.W.BatchSink g.P.H.BatchSink g.P.K.Clock g.P.Y.Diary g.P.D.Door
    g.P.D.C.Source g.P.D.C.ByteSink g.P.D.C.Conn) (arc_value c.args.shared.now.settings) c.args.shared.now.boot in
    record {
      whole = search (rules, c.into_iter-table-iterator.ensures);
      routes = ap (map routes_of) none;
      count = ap length none;
      bay = refl;
      room = search (rules, c.in-Ok.ensures.capacity, c.len.ensures);
      logs = ap (λ l. map log_lane l ++ c.into_iter-log_lanes.result.rest.items) none ∙ search (rules, c.into_iter-log_lanes.ensures);
      hooks = ap (λ l. map hook_lane l ++ c.into_iter-hook_lanes.result.rest.items) none ∙ search (rules, c.into_iter-hook_lanes.ensures);
      faults = refl;
      made = c.calls_join.ensures.none _;
      due = λ k h. refl;
      new = λ k. subst (λ l. IfSome (slice_get l k) (New ((g.P.Plant.tells c.args.plant.now).due k) k)) (sym none) tt;
    }

pub unreachable-requires : goal.unreachable-requires
unreachable-requires g c =
    let i = c.loop-table.invariant in
    let some = some_left log_lane c.loop-table.bays.items c.loop-table.log_lanes.rest.items c.args.logs.items c.args.routes.items c.loop-table.yielded
    c.loop-table.table-iterator.rest.items _ c.in-Some.table i.logs c.requires.counts.0 i.whole c.in-Some.ensures.steps.0 i.count in
    let q = c.in_default-next.ensures.variant.1 (omega (arith, some, c.loop-table.log_lanes.rest.ok.0)) in absurd cc

pub unreachable-requires-in_default-next-2 : goal.unreachable-requires-in_default-next-2
unreachable-requires-in_default-next-2 g c =
    let i = c.loop-table.invariant in
    let some = some_left hook_lane c.loop-table.bays.items c.loop-table.hook_lanes.rest.items c.args.hooks.items c.args.routes.items c.loop-table.yielded
    c.loop-table.table-iterator.rest.items _ c.in-Some.table i.hooks c.requires.counts.1 i.whole c.in-Some.ensures.steps.0 i.count in
    let q = c.in_default-next-2.ensures.variant.1 (omega (arith, some, c.loop-table.hook_lanes.rest.ok.0)) in absurd cc

pub make_bay-requires-clause-log : goal.make_bay-requires-clause-log
make_bay-requires-clause-log g c =
    let i = c.loop-table.invariant in
    let mode = (arc_value c.args.shared.now.settings).log in
    subst (λ k. TakesLines k mode c.in-Some-next.log) (i.count ∙ sym i.bay)
    (walk_next (λ k. TakesLines k mode) log_lane c.loop-table.bays.items c.loop-table.log_lanes.rest.items _ c.args.logs.items c.in-Some-next.log
    i.logs c.in-Some-next.ensures.items c.requires.logs)

pub make_bay-requires-clause-hook : goal.make_bay-requires-clause-hook
make_bay-requires-clause-hook g c =
    let i = c.loop-table.invariant in
    let mode = (arc_value c.args.shared.now.settings).hook in
    subst (λ k. TakesLines k mode c.in-Some-next-2.hook) (i.count ∙ sym i.bay)
    (walk_next (λ k. TakesLines k mode) hook_lane c.loop-table.bays.items c.loop-table.hook_lanes.rest.items _ c.args.hooks.items c.in-Some-next-2.hook
    i.hooks c.in-Some-next-2.ensures.items c.requires.hooks)

pub push_reserved-requires : goal.push_reserved-requires
push_reserved-requires g c =
    let i = c.loop-table.invariant in
    let below = next_below c.args.routes.items c.loop-table.yielded c.loop-table.table-iterator.rest.items _ c.in-Some.table i.whole c.in-Some.ensures.steps.0 in
    omega (arith, below, i.room, i.count, c.loop-table.bays.ok.0)

pub overflow_add-bay : goal.overflow_add-bay
overflow_add-bay g c =
    let i = c.loop-table.invariant in
    let below = next_below c.args.routes.items c.loop-table.yielded c.loop-table.table-iterator.rest.items _ c.in-Some.table i.whole c.in-Some.ensures.steps.0 in
    omega (arith, below, i.bay, c.requires.few)

pub loop-table-preserved : goal.loop-table-preserved
loop-table-preserved g c =
    let i = c.loop-table.invariant in
    let p = c.push_reserved.ensures in
    let role = c.in_ok-role.role in
    let says = c.in_ok-role.ensures in
    let old = c.loop-table.bays.items in
    let yielded = c.loop-table.yielded in
    let table = c.in-Some.table in
    let o = c.args.options.now in
    let first = g.P.Plant.tells c.args.plant.now in
    let last = g.P.Plant.tells c.make_bay.new.plant in
    let longer = one_longer yielded table in
    let New = IsNewBay (bay_handles g.R.Routes g.P.L.Dial g.P.W.BatchSink g.P.H.BatchSink g.P.K.Clock g.P.Y.Diary g.P.D.Door
    g.P.D.C.Source g.P.D.C.ByteSink g.P.D.C.Conn) (arc_value c.args.shared.now.settings) c.args.shared.now.boot in
    record {
      whole = next_whole c.args.routes.items yielded c.loop-table.table-iterator.rest.items _ table i.whole c.in-Some.ensures.steps.0;
      routes = image_more routes_of old _ role yielded table p.items says.routes i.routes;
      count = omega (arith, ap length p.items, length-append old (role ∷ []), longer, i.count);
      bay = omega (arith, i.bay, longer);
      room = search (rules, p.capacity, i.room);
      logs = walk_more log_lane old _ c.loop-table.log_lanes.rest.items _ c.args.logs.items c.in-Some-next.log role i.logs
          c.in-Some-next.ensures.items p.items says.lanes.0;
      hooks = walk_more hook_lane old _ c.loop-table.hook_lanes.rest.items _ c.args.hooks.items c.in-Some-next-2.hook role i.hooks
          c.in-Some-next-2.ensures.items p.items says.lanes.1;
      faults = says.cause ∙ i.faults;
      made = subst (λ l. Joined first.made l last.made)
          (sym (ap (bays_calls o.listen o.connections 0) longer ∙ bays_more o.listen o.connections 0 (length yielded) c.loop-table.bay (omega (arith, i.bay))))
          (c.calls_join.ensures.join first.made _ last.made (bays_calls o.listen o.connections 0 (length yielded))
          (bay_calls o.listen o.connections c.loop-table.bay) i.made says.called);
      due = λ k h. says.due k (λ q. absurd (omega (arith, q, i.bay, h, longer))) ∙ i.due k (omega (arith, h, longer));
      new = each_more (λ k a. New (first.due k) k a) old _ role p.items i.new
          (subst (λ k. New (first.due k) k role) (i.bay ∙ sym i.count)
          (subst (λ q. New q c.loop-table.bay role) (i.due c.loop-table.bay (omega (arith, i.bay))) says.new));
    }

pub returns-clause-lanes : goal.returns-clause-lanes
returns-clause-lanes g c =
    let i = c.loop-table.invariant in
    let rest = c.loop-table.table-iterator.rest in
    let all = all_of c.args.routes.items c.loop-table.yielded rest.items i.whole (omega (arith, rest.ok.0, c.in-None.ensures.steps.0)) in
    let old = c.loop-table.bays.items in (
      walk_end log_lane old c.loop-table.log_lanes.rest.items c.args.logs.items i.logs
          (none_left log_lane old c.loop-table.log_lanes.rest.items c.args.logs.items c.args.routes.items c.loop-table.yielded i.logs c.requires.counts.0 all i.count),
      walk_end hook_lane old c.loop-table.hook_lanes.rest.items c.args.hooks.items i.hooks
          (none_left hook_lane old c.loop-table.hook_lanes.rest.items c.args.hooks.items c.args.routes.items c.loop-table.yielded i.hooks c.requires.counts.1 all i.count),
    )

pub returns-clause-routes : goal.returns-clause-routes
returns-clause-routes g c =
    let i = c.loop-table.invariant in
    let rest = c.loop-table.table-iterator.rest in
    i.routes ∙ all_of c.args.routes.items c.loop-table.yielded rest.items i.whole (omega (arith, rest.ok.0, c.in-None.ensures.steps.0))

pub returns-clause-called : goal.returns-clause-called
returns-clause-called g c =
    let i = c.loop-table.invariant in
    let rest = c.loop-table.table-iterator.rest in
    let o = c.args.options.now in
    let all = all_of c.args.routes.items c.loop-table.yielded rest.items i.whole (omega (arith, rest.ok.0, c.in-None.ensures.steps.0)) in
    subst (λ n. Joined (g.P.Plant.tells c.args.plant.now).made (bays_calls o.listen o.connections 0 n) (g.P.Plant.tells c.loop-table.plant).made)
    (ap length all) i.made

pub returns-in_err-role-clause-stopped : goal.returns-in_err-role-clause-stopped
returns-in_err-role-clause-stopped g c =
    let i = c.loop-table.invariant in
    let o = c.args.options.now in
    let first = (g.P.Plant.tells c.args.plant.now).made in
    let last = (g.P.Plant.tells c.make_bay.new.plant).made in
    let m = length c.loop-table.yielded in
    let n = length c.args.routes.items in
    let below = next_below c.args.routes.items c.loop-table.yielded c.loop-table.table-iterator.rest.items _ c.in-Some.table i.whole c.in-Some.ensures.steps.0 in
    let k = n - m - 1 in
    let all : m + suc k ≡ n = omega (arith, below) in
    let part = c.calls_in_part.ensures in
    let rest = bays_calls o.listen o.connections (suc (0 + m)) k in
    let own = subst (λ b. CallsPart (bay_calls o.listen o.connections b) (g.P.Plant.tells c.loop-table.plant).made last)
    (let e : c.loop-table.bay ≡ 0 + m = omega (arith, i.bay) in e) c.in_err-role.ensures.stopped in
    on_err _ _ (subst (λ j. CallsPart (bays_calls o.listen o.connections 0 j) first last) all
    (subst (λ l. CallsPart l first last) (sym (bays_split o.listen o.connections 0 m k))
    (part.more first _ last (bays_calls o.listen o.connections 0 m) (bay_calls o.listen o.connections (0 + m) ++ rest) i.made
    (part.less _ last (bay_calls o.listen o.connections (0 + m)) rest own))))

pub returns-in_default-clause-stopped : goal.returns-in_default-clause-stopped
returns-in_default-clause-stopped g c = c.calls_in_part.ensures.none _ _
