use Rattle.std.proofs.Common.{subst}
use Rattle.audit_core.specs.declared.sinks.Sink.TheVariants.{Log, Webhook}
use Rattle.front_plants.specs.Fresh.{log_opens, hook_opens}
use Rattle.serve_bays.specs.Served.{SinkServed}
use Rattle.run_laws.proofs.LaneLemmas.{log_batches, hook_batches}
use Rattle.run_laws.proofs.laws.accepted_lines_are_batched.Goals as goal
use Rattle.serve_roles.specs.Doors.{bay_handles}

pub returns : goal.returns
returns g c Log set options before after tables ended served mode =
    let h = bay_handles g.R.Routes g.P.L.Dial g.P.W.BatchSink g.P.H.BatchSink g.P.K.Clock g.P.Y.Diary g.P.D.Door
    g.P.D.C.Source g.P.D.C.ByteSink g.P.D.C.Conn in
    log_batches h set (log_opens g.P.Plant.opens) (hook_opens g.P.Plant.opens options.hook_url) served.boot before.due tables served.logs served.hooks c.each_lane_gets_its_lines.ensures.accepted
    c.refusals_are_counted.ensures.full options served.log_allots ended.bays.items ended.log served.count served.each
    (subst (λ m. SinkServed g.P.W.BatchSink g.P.K.Clock (log_opens g.P.Plant.opens) m options.bays options.buffer served.log_allots options.limits served.logs ended.log) mode served.log)
returns g c Webhook set options before after tables ended served mode =
    let h = bay_handles g.R.Routes g.P.L.Dial g.P.W.BatchSink g.P.H.BatchSink g.P.K.Clock g.P.Y.Diary g.P.D.Door
    g.P.D.C.Source g.P.D.C.ByteSink g.P.D.C.Conn in
    hook_batches h set (log_opens g.P.Plant.opens) (hook_opens g.P.Plant.opens options.hook_url) served.boot before.due tables served.logs served.hooks c.each_lane_gets_its_lines.ensures.accepted
    c.refusals_are_counted.ensures.full options served.hook_allots ended.bays.items ended.hook served.count served.each
    (subst (λ m. SinkServed g.P.H.BatchSink g.P.K.Clock (hook_opens g.P.Plant.opens options.hook_url) m options.bays options.buffer served.hook_allots options.limits served.hooks ended.hook) mode served.hook)
