use Rattle.audit_core.specs.declared.sinks.Sink.TheVariants.{Log, Webhook}
use Rattle.front_plants.specs.Fresh.{log_opens, hook_opens}
use Rattle.run_laws.specs.Told.{BatchesAre}
use Rattle.run_laws.proofs.LaneLemmas.{log_batches_are, hook_batches_are}
use Rattle.run_laws.proofs.TryLemmas.{by_mode}
use Rattle.run_laws.proofs.laws.drained_tries_are_batched.Goals as goal
use Rattle.serve_roles.specs.Doors.{bay_handles}
use Rattle.serve_runs.specs.Served.{run_exchanges}

pub returns : goal.returns
returns g c Log set options before after tables ended served mode =
    let h = bay_handles g.R.Routes g.P.L.Dial g.P.W.BatchSink g.P.H.BatchSink g.P.K.Clock g.P.Y.Diary g.P.D.Door
    g.P.D.C.Source g.P.D.C.ByteSink g.P.D.C.Conn in
    by_mode g.P.W.BatchSink g.P.K.Clock (log_opens g.P.Plant.opens) options.bays options.buffer served.log_allots options.limits served.logs ended.log
    (BatchesAre h g.P.W.BatchSink (log_opens g.P.Plant.opens) set Log options served.log_allots (run_exchanges served) ended.bays.items ended.log)
    set.log mode served.log
    (log_batches_are h set (log_opens g.P.Plant.opens) (hook_opens g.P.Plant.opens options.hook_url) served.boot before.due tables served.logs served.hooks c.each_lane_gets_its_lines.ensures.accepted
    c.refusals_are_counted.ensures.full options served.log_allots ended.bays.items ended.log served.count served.each)
returns g c Webhook set options before after tables ended served mode =
    let h = bay_handles g.R.Routes g.P.L.Dial g.P.W.BatchSink g.P.H.BatchSink g.P.K.Clock g.P.Y.Diary g.P.D.Door
    g.P.D.C.Source g.P.D.C.ByteSink g.P.D.C.Conn in
    by_mode g.P.H.BatchSink g.P.K.Clock (hook_opens g.P.Plant.opens options.hook_url) options.bays options.buffer served.hook_allots options.limits served.hooks ended.hook
    (BatchesAre h g.P.H.BatchSink (hook_opens g.P.Plant.opens options.hook_url) set Webhook options served.hook_allots (run_exchanges served) ended.bays.items ended.hook)
    set.hook mode served.hook
    (hook_batches_are h set (log_opens g.P.Plant.opens) (hook_opens g.P.Plant.opens options.hook_url) served.boot before.due tables served.logs served.hooks c.each_lane_gets_its_lines.ensures.accepted
    c.refusals_are_counted.ensures.full options served.hook_allots ended.bays.items ended.hook served.count served.each)
