use Rattle.std.proofs.Common.{All, inr, refl, sym, subst}
use Rattle.shared_runs.specs.Histories.{SawOne}
use Rattle.shared_runs.specs.Setup.{options_of}
use Rattle.serve_roles.specs.Doors.{bay_handles}
use Rattle.serve_runs.specs.Causes.{NoRun}
use Rattle.serve_runs.specs.declared.ended.RunStatus.{RunStatus}
use Rattle.shared_runs.proofs.RunLemmas.{counted_or_seen, told_shared}
use Rattle.shared_runs.specs.Runs.{shared_routes}
use Rattle.shared_runs.proofs.shared.run_shared.Goals as goal

pub returns : goal.returns
returns g c =
    let h = bay_handles shared_routes g.P.L.Dial g.P.W.BatchSink g.P.H.BatchSink g.P.K.Clock g.P.Y.Diary g.P.D.Door
    g.P.D.C.Source g.P.D.C.ByteSink g.P.D.C.Conn in
    let home = g.N.RouteName.home in
    let opening = g.N.RouteName.opening in
    let ran = c.run_configured-status.result in
    let counted = c.close_bays-bays.result.counted in
    let saw = c.all_saw_one.ensures in
    told_shared h g.row.P-Rt.Denot c.args.settings (options_of c.args.words.now c.args.listen) g.P.Plant.opens home opening
    (g.P.Plant.tells c.args.plant.now) (g.P.Plant.tells c.run_configured-status.new.plant) c.in-Ok-share_routes.table.routes.items
    ran (record {
      status = ran.status;
      bays = c.close_bays-bays.result.bays;
      log = ran.log;
      hook = ran.hook;
    }) counted
    c.in-Ok-share_routes.ensures.fresh
    (counted_or_seen home opening ran.bays.items counted c.close_bays-bays.ensures.counted saw.0
    (subst (All (SawOne home opening saw.0)) c.as_slice.ensures.value saw.1))
    c.close_bays-bays.ensures.items refl refl refl c.run_configured-status.ensures

pub returns-in_default : goal.returns-in_default
returns-in_default g c =
    let faults = (g.P.Plant.tells c.args.plant.now).faults in
    inr (record {
      none = c.nothing_ran.ensures.1;
      cause = subst (λ (s : RunStatus). NoRun faults faults s) (sym c.nothing_ran.ensures.0) refl;
      called = c.no_calls_yet.ensures _ _ _;
    })

pub returns-in_default-share_routes : goal.returns-in_default-share_routes
returns-in_default-share_routes g c =
    let faults = (g.P.Plant.tells c.args.plant.now).faults in
    inr (record {
      none = c.nothing_ran-in_default-share_routes.ensures.1;
      cause = subst (λ (s : RunStatus). NoRun faults faults s) (sym c.nothing_ran-in_default-share_routes.ensures.0) refl;
      called = c.no_calls_yet.ensures _ _ _;
    })
