use Rattle.std.proofs.Common.{refl}
use Rattle.audit_core.specs.declared.sinks.Sink.TheVariants.{Log, Webhook}
use Rattle.front_plants.specs.Fresh.{log_opens, hook_opens}
use Rattle.run_laws.proofs.LaneLemmas.{are_own, none_left}
use Rattle.run_laws.proofs.RecordLemmas.{all_given}
use Rattle.run_laws.proofs.laws.sent_bytes_are_those_of_the_record.Goals as goal
use Rattle.serve_roles.specs.Doors.{bay_handles}
use Rattle.serve_runs.specs.Served.{run_exchanges}

pub returns : goal.returns
returns g c Log set options before after tables ended served =
    let h = bay_handles g.R.Routes g.P.L.Dial g.P.W.BatchSink g.P.H.BatchSink g.P.K.Clock g.P.Y.Diary g.P.D.Door
    g.P.D.C.Source g.P.D.C.ByteSink g.P.D.C.Conn in
    all_given h g.P.W.BatchSink (log_opens g.P.Plant.opens) set Log options served.log_allots (run_exchanges served) ended.bays.items ended.log served.count
    (none_left h set (log_opens g.P.Plant.opens) (hook_opens g.P.Plant.opens options.hook_url) served.boot before.due tables served.logs served.hooks
    ended.bays.items served.each)
    set.log set.log refl (c.accepted_lines_are_batched.ensures Log set options before after tables ended served)
    (λ mode. (are_own g.P.W.BatchSink g.P.K.Clock (log_opens g.P.Plant.opens) set.log options served.log_allots served.logs ended.log mode served.log).count)
    (c.tried_lines_are_those_offered.ensures Log set options before after tables ended served)
returns g c Webhook set options before after tables ended served =
    let h = bay_handles g.R.Routes g.P.L.Dial g.P.W.BatchSink g.P.H.BatchSink g.P.K.Clock g.P.Y.Diary g.P.D.Door
    g.P.D.C.Source g.P.D.C.ByteSink g.P.D.C.Conn in
    all_given h g.P.H.BatchSink (hook_opens g.P.Plant.opens options.hook_url) set Webhook options served.hook_allots (run_exchanges served) ended.bays.items ended.hook served.count
    (none_left h set (log_opens g.P.Plant.opens) (hook_opens g.P.Plant.opens options.hook_url) served.boot before.due tables served.logs served.hooks
    ended.bays.items served.each)
    set.hook set.hook refl (c.accepted_lines_are_batched.ensures Webhook set options before after tables ended served)
    (λ mode. (are_own g.P.H.BatchSink g.P.K.Clock (hook_opens g.P.Plant.opens options.hook_url) set.hook options served.hook_allots served.hooks ended.hook mode served.hook).count)
    (c.tried_lines_are_those_offered.ensures Webhook set options before after tables ended served)
