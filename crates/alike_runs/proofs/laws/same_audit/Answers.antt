use Rattle.audit_core.specs.declared.sinks.Sink.TheVariants.{Log, Webhook}
use Rattle.front_plants.specs.Fresh.{log_opens, hook_opens}
use Rattle.alike_runs.proofs.BayLemmas.{same_drains}
use Rattle.alike_runs.proofs.laws.same_audit.Goals as goal
use Rattle.serve_roles.specs.Doors.{bay_handles}
use Rattle.serve_runs.specs.Served.{run_exchanges}

pub returns : goal.returns
returns g c Log set options one other runs mode opened alike cut =
    let h = bay_handles g.R.Routes g.P.L.Dial g.P.W.BatchSink g.P.H.BatchSink g.P.K.Clock g.P.Y.Diary g.P.D.Door
    g.P.D.C.Source g.P.D.C.ByteSink g.P.D.C.Conn in
    same_drains h set g.P.W.BatchSink (log_opens g.P.Plant.opens) Log options (run_exchanges runs.ran) (run_exchanges runs.also) one.bays.items other.bays.items one.log other.log
    runs.ran.count runs.also.count alike c.alike_exchanges_owe_alike.ensures.taken c.cut_alike_sent_alike.ensures
    c.parts_make_lines.ensures runs.ran.log_allots runs.also.log_allots opened
    (c.accepted_lines_are_batched.ensures Log set options runs.before runs.after runs.tables one runs.ran mode)
    (c.accepted_lines_are_batched.ensures Log set options runs.begun runs.done runs.others other runs.also mode)
    cut
returns g c Webhook set options one other runs mode opened alike cut =
    let h = bay_handles g.R.Routes g.P.L.Dial g.P.W.BatchSink g.P.H.BatchSink g.P.K.Clock g.P.Y.Diary g.P.D.Door
    g.P.D.C.Source g.P.D.C.ByteSink g.P.D.C.Conn in
    same_drains h set g.P.H.BatchSink (hook_opens g.P.Plant.opens options.hook_url) Webhook options (run_exchanges runs.ran) (run_exchanges runs.also) one.bays.items other.bays.items one.hook other.hook
    runs.ran.count runs.also.count alike c.alike_exchanges_owe_alike.ensures.taken c.cut_alike_sent_alike.ensures
    c.parts_make_lines.ensures runs.ran.hook_allots runs.also.hook_allots opened
    (c.accepted_lines_are_batched.ensures Webhook set options runs.before runs.after runs.tables one runs.ran mode)
    (c.accepted_lines_are_batched.ensures Webhook set options runs.begun runs.done runs.others other runs.also mode)
    cut
