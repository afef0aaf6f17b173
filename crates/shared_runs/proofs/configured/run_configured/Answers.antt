use Rattle.std.proofs.Common.{◌⊎◌, inr, refl, sym, subst}
use Rattle.serve_bays.specs.declared.options.RunOptions.{RunOptions}
use Rattle.shared_runs.proofs.configured.run_configured.Goals as goal
use Rattle.serve_roles.specs.Doors.{bay_handles}
use Rattle.serve_runs.specs.Causes.{NoRun, NothingRan}
use Rattle.serve_runs.specs.Served.{RunServed}
use Rattle.serve_runs.specs.declared.ended.RunStatus.{RunStatus}

pub returns : goal.returns
returns g c =
    let h = bay_handles g.R.Routes g.P.L.Dial g.P.W.BatchSink g.P.H.BatchSink g.P.K.Clock g.P.Y.Diary g.P.D.Door
    g.P.D.C.Source g.P.D.C.ByteSink g.P.D.C.Conn in
    let before = g.P.Plant.tells c.args.plant.now in
    let after = g.P.Plant.tells c.run_serve.new.plant in
    let ended = c.run_serve.result in
    let Ends = λ (o : RunOptions). RunServed h g.row.P-Rt.Denot c.args.settings o g.P.Plant.opens before after c.args.routes.items ended
    ⊎ NothingRan c.args.settings o before after ended in
    subst Ends c.in-Ok-options_of.ensures c.run_serve.ensures

pub returns-in_default : goal.returns-in_default
returns-in_default g c =
    let faults = (g.P.Plant.tells c.args.plant.now).faults in
    inr (record {
      none = c.nothing_ran.ensures.1;
      cause = subst (λ (s : RunStatus). NoRun faults faults s) (sym c.nothing_ran.ensures.0) refl;
      called = c.no_calls_yet.ensures _ _ _;
    })

pub returns-in_default-options_of : goal.returns-in_default-options_of
returns-in_default-options_of g c =
    let faults = (g.P.Plant.tells c.args.plant.now).faults in
    inr (record {
      none = c.nothing_ran-in_default-options_of.ensures.1;
      cause = subst (λ (s : RunStatus). NoRun faults faults s) (sym c.nothing_ran-in_default-options_of.ensures.0) refl;
      called = c.no_calls_yet.ensures _ _ _;
    })
