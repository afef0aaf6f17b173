use Rattle.std.proofs.Common.{slice_get}
use Rattle.audit_core.specs.declared.sinks.Sink.TheVariants.{Log, Webhook}
use Rattle.event_offers.specs.Taken.{is_tried}
use Rattle.front_plants.specs.Fresh.{log_opens, hook_opens}
use Rattle.log_conforms.proofs.RunLemmas.{are_own, none_at, tries_woven}
use Rattle.log_conforms.proofs.laws.logs_at_once_conform.Goals as goal
use Rattle.serve_roles.specs.Doors.{bay_handles}
use Rattle.serve_runs.specs.Served.{run_exchanges}

pub returns : goal.returns
returns g c Log set options before after tables ended served tokens mode lines tried =
    let h = bay_handles g.R.Routes g.P.L.Dial g.P.W.BatchSink g.P.H.BatchSink g.P.K.Clock g.P.Y.Diary g.P.D.Door
    g.P.D.C.Source g.P.D.C.ByteSink g.P.D.C.Conn in
    let xs = run_exchanges served in
    c.lines_of_a_run_conform.ensures set options before after tables ended served tokens is_tried Log lines
    (tries_woven h set g.P.W.BatchSink (log_opens g.P.Plant.opens) Log options xs ended.bays.items ended.log served.count
    (λ bay. none_at h set (log_opens g.P.Plant.opens) (hook_opens g.P.Plant.opens options.hook_url) served.boot before.due tables served.logs served.hooks
    bay (slice_get ended.bays.items bay) (served.each bay)) lines
    (are_own g.P.W.BatchSink g.P.K.Clock (log_opens g.P.Plant.opens) set.log options served.log_allots served.logs ended.log mode served.log).count
    (c.tried_lines_are_those_offered.ensures Log set options before after tables ended served mode) tried)
returns g c Webhook set options before after tables ended served tokens mode lines tried =
    let h = bay_handles g.R.Routes g.P.L.Dial g.P.W.BatchSink g.P.H.BatchSink g.P.K.Clock g.P.Y.Diary g.P.D.Door
    g.P.D.C.Source g.P.D.C.ByteSink g.P.D.C.Conn in
    let xs = run_exchanges served in
    c.lines_of_a_run_conform.ensures set options before after tables ended served tokens is_tried Webhook lines
    (tries_woven h set g.P.H.BatchSink (hook_opens g.P.Plant.opens options.hook_url) Webhook options xs ended.bays.items ended.hook served.count
    (λ bay. none_at h set (log_opens g.P.Plant.opens) (hook_opens g.P.Plant.opens options.hook_url) served.boot before.due tables served.logs served.hooks
    bay (slice_get ended.bays.items bay) (served.each bay)) lines
    (are_own g.P.H.BatchSink g.P.K.Clock (hook_opens g.P.Plant.opens options.hook_url) set.hook options served.hook_allots served.hooks ended.hook mode served.hook).count
    (c.tried_lines_are_those_offered.ensures Webhook set options before after tables ended served mode) tried)
