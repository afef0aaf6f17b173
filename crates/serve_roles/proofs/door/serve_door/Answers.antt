use Rattle.serve_roles.proofs.ReadyLemmas.{ready_of, serve_of}
use Rattle.serve_roles.proofs.door.serve_door.Goals as goal

pub run_bay-stop-requires : goal.run_bay-stop-requires
run_bay-stop-requires g c =
    record { ready = ready_of g.R.Routes g.L.Dial g.W.BatchSink g.H.BatchSink g.K.Clock g.Y.Diary c.args.settings.now c.args.bay.now c.requires }

pub returns-clause-ready : goal.returns-clause-ready
returns-clause-ready g c =
    serve_of g.R.Routes g.L.Dial g.W.BatchSink g.H.BatchSink g.K.Clock g.Y.Diary c.args.settings.now c.run_bay-stop.new.bay
    c.run_bay-stop.ensures.ready

pub returns-clause-ran : goal.returns-clause-ran
returns-clause-ran g c =
    let runs = c.run_bay-stop.ensures.runs in
    let told = c.a_door_is_told_whole.ensures _ _ _ _ runs.all runs.ran in
    record { runs = runs; each = told.0; told = told.1 }
