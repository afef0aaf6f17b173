use Rattle.std.proofs.Common.{slice_get}
use Rattle.front_plants.specs.Fresh.{log_opens, hook_opens}
use Rattle.log_conforms.proofs.RunLemmas.{bay_noted}
use Rattle.log_conforms.proofs.laws.lines_of_a_run_conform.Goals as goal
use Rattle.serve_roles.specs.Doors.{bay_handles}
use Rattle.serve_runs.specs.Served.{run_exchanges}

pub returns : goal.returns
returns g c = λ set options before after tables ended served tokens keeps sink lines woven.
    let h = bay_handles g.R.Routes g.P.L.Dial g.P.W.BatchSink g.P.H.BatchSink g.P.K.Clock g.P.Y.Diary g.P.D.Door
    g.P.D.C.Source g.P.D.C.ByteSink g.P.D.C.Conn in
    c.woven_lines_conform.ensures set served.boot keeps sink (run_exchanges served) lines tokens
    (λ bay. bay_noted h set (log_opens g.P.Plant.opens) (hook_opens g.P.Plant.opens options.hook_url) served.boot before.due tables served.logs served.hooks
    c.exchanges_are_recorded.ensures bay (slice_get ended.bays.items bay) (served.each bay))
    woven
