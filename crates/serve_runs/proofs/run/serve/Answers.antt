use Rattle.std.proofs.Common.{arith, ap, sym, subst, ◌∙◌, List, length, map}
use Rattle.any_lane.specs.declared.lane.AnyLane.{AnyLane}
use Rattle.front_plants.specs.Fresh.{log_opens, hook_opens}
use Rattle.serve_bays.specs.Served.{SinkServed}
use Rattle.role_threads.specs.Lists.{AllPairs}
use Rattle.serve_roles.specs.Doors.{bay_handles}
use Rattle.serve_roles.specs.Ends.{log_lane, hook_lane}
use Rattle.serve_runs.specs.Status.{status_of, stops_of}
use Rattle.serve_runs.proofs.CallLemmas.{PartLaws, on_err, no_calls}
use Rattle.serve_runs.proofs.RunLemmas.{image_count, ran_count, same_logs, same_hooks, run_served}
use Rattle.serve_runs.proofs.run.serve.Goals as goal
use Rattle.sink_lanes.specs.Together.{SameAny}

pub run_all-left-requires-clause-room : goal.run_all-left-requires-clause-room
run_all-left-requires-clause-room g c = omega (arith, c.in_ok-roles.ensures.made.count, c.in_ok-room.ensures, c.from-count.ensures)

pub run_all-left-requires-clause-log_room : goal.run_all-left-requires-clause-log_room
run_all-left-requires-clause-log_room g c = omega (arith, c.in_ok-roles.ensures.made.count, c.in_ok-log_room.ensures, c.from-count.ensures)

pub run_all-left-requires-clause-log : goal.run_all-left-requires-clause-log
run_all-left-requires-clause-log g c = λ κs within xs d bays log.
    let o = c.args.options.now in
    let h = bay_handles g.R.Routes g.P.L.Dial g.P.W.BatchSink g.P.H.BatchSink g.P.K.Clock g.P.Y.Diary g.P.D.Door
    g.P.D.C.Source g.P.D.C.ByteSink g.P.D.C.Conn in
    let m = c.in_ok-roles.roles in
    let made = c.in_ok-roles.ensures.made in
    c.lanes_are_served.ensures.can_end (log_opens g.P.Plant.opens) c.args.settings.log o.bays o.buffer made.log_allots o.limits (map log_lane m.bays.items) (map log_lane xs) m.log d made.log (same_logs h m.bays.items xs bays) log

pub end_lanes-hook-requires-clause-room : goal.end_lanes-hook-requires-clause-room
end_lanes-hook-requires-clause-room g c =
    let o = c.args.options.now in
    let h = bay_handles g.R.Routes g.P.L.Dial g.P.W.BatchSink g.P.H.BatchSink g.P.K.Clock g.P.Y.Diary g.P.D.Door
    g.P.D.C.Source g.P.D.C.ByteSink g.P.D.C.Conn in
    let ran = c.run_all-left.ensures in
    let n = ran_count h c.args.settings o g.P.Plant.opens (g.P.Plant.tells c.args.plant.now) (g.P.Plant.tells c.make_roles.new.plant) c.args.routes.items
    c.in_ok-roles.roles ran.bays c.in_ok-roles.ensures.made ran.bays_ran in
    let m = ap length ran.hooks_are in
    let k = image_count hook_lane ran.bays in
    omega (arith, n, m, k, c.in_ok-hook_room.ensures, c.from-count.ensures)

pub end_lanes-hook-requires-clause-queue : goal.end_lanes-hook-requires-clause-queue
end_lanes-hook-requires-clause-queue g c =
    let o = c.args.options.now in
    let h = bay_handles g.R.Routes g.P.L.Dial g.P.W.BatchSink g.P.H.BatchSink g.P.K.Clock g.P.Y.Diary g.P.D.Door
    g.P.D.C.Source g.P.D.C.ByteSink g.P.D.C.Conn in
    let m = c.in_ok-roles.roles in
    let made = c.in_ok-roles.ensures.made in
    let ran = c.run_all-left.ensures in
    let hooks = c.run_all-left.result.0.hooks.items in
    let pairs = subst (λ (z : List (AnyLane _ _)). AllPairs SameAny (map hook_lane m.bays.items) z) (sym ran.hooks_are)
    (same_hooks h m.bays.items ran.bays ran.bays_ran) in
    c.lanes_are_served-2.ensures.can_end (hook_opens g.P.Plant.opens o.hook_url) c.args.settings.hook o.bays o.buffer made.hook_allots o.limits (map hook_lane m.bays.items) hooks m.hook c.run_all-left.result.1 made.hook pairs ran.hook_ran

pub returns-clause-served : goal.returns-clause-served
returns-clause-served g c =
    let o = c.args.options.now in
    let set = c.args.settings in
    let h = bay_handles g.R.Routes g.P.L.Dial g.P.W.BatchSink g.P.H.BatchSink g.P.K.Clock g.P.Y.Diary g.P.D.Door
    g.P.D.C.Source g.P.D.C.ByteSink g.P.D.C.Conn in
    let m = c.in_ok-roles.roles in
    let made = c.in_ok-roles.ensures.made in
    let ran = c.run_all-left.ensures in
    let left = c.run_all-left.result.0 in
    let hooks = left.hooks.items in
    let hook_pairs = subst (λ (z : List (AnyLane _ _)). AllPairs SameAny (map hook_lane m.bays.items) z) (sym ran.hooks_are)
    (same_hooks h m.bays.items ran.bays ran.bays_ran) in
    let log = c.lanes_are_served.ensures.served (log_opens g.P.Plant.opens) set.log o.bays o.buffer made.log_allots o.limits (map log_lane m.bays.items) (map log_lane ran.bays) m.log ran.drain left.log
    made.log (same_logs h m.bays.items ran.bays ran.bays_ran) ran.log_ran ran.own_is ran.queue_is in
    let hook = c.lanes_are_served-2.ensures.served (hook_opens g.P.Plant.opens o.hook_url) set.hook o.bays o.buffer made.hook_allots o.limits (map hook_lane m.bays.items) hooks m.hook c.run_all-left.result.1 c.end_lanes-hook.result
    made.hook hook_pairs ran.hook_ran c.end_lanes-hook.ensures.own c.end_lanes-hook.ensures.queue in
    run_served h set o g.P.Plant.opens (g.P.Plant.tells c.args.plant.now) (g.P.Plant.tells c.make_roles.new.plant) c.args.routes.items m ran.bays _ made c.in_ok-roles.ensures.cause ran.bays_ran ran.ends_are
    log
    (subst (λ z. SinkServed g.P.H.BatchSink g.P.K.Clock (hook_opens g.P.Plant.opens o.hook_url) set.hook o.bays o.buffer made.hook_allots o.limits z c.end_lanes-hook.result) ran.hooks_are hook)
    (c.status_of.ensures ∙ ap (λ q. status_of (stops_of q)) c.as_slice.ensures.value)

pub returns-in_err-room-clause-stopped : goal.returns-in_err-room-clause-stopped
returns-in_err-room-clause-stopped g c =
    let says = c.calls_in_part.ensures in
    let law : PartLaws = record { none = says.none; whole = says.whole; less = says.less; more = says.more } in
    on_err _ _ (no_calls law c.args.settings c.args.options.now _)

pub returns-in_err-log_room-clause-stopped : goal.returns-in_err-log_room-clause-stopped
returns-in_err-log_room-clause-stopped g c =
    let says = c.calls_in_part.ensures in
    let law : PartLaws = record { none = says.none; whole = says.whole; less = says.less; more = says.more } in
    on_err _ _ (no_calls law c.args.settings c.args.options.now _)

pub returns-in_err-hook_room-clause-stopped : goal.returns-in_err-hook_room-clause-stopped
returns-in_err-hook_room-clause-stopped g c =
    let says = c.calls_in_part.ensures in
    let law : PartLaws = record { none = says.none; whole = says.whole; less = says.less; more = says.more } in
    on_err _ _ (no_calls law c.args.settings c.args.options.now _)
