use Rattle.std.proofs.Common.{slice_get}
use Rattle.front_plants.specs.Fresh.{log_opens, hook_opens}
use Rattle.run_bounds.proofs.EndLemmas.{end_read}
use Rattle.run_bounds.proofs.laws.requests_of_a_run_were_read.Goals as goal
use Rattle.serve_roles.specs.Doors.{bay_handles}

pub returns : goal.returns
returns g c set options before after tables ended served bay =
    let h = bay_handles g.R.Routes g.P.L.Dial g.P.W.BatchSink g.P.H.BatchSink g.P.K.Clock g.P.Y.Diary g.P.D.Door
    g.P.D.C.Source g.P.D.C.ByteSink g.P.D.C.Conn in
    end_read h set (log_opens g.P.Plant.opens) (hook_opens g.P.Plant.opens options.hook_url) served.boot before.due tables served.logs served.hooks bay
    (slice_get ended.bays.items bay) (served.each bay)
