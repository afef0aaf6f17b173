use Rattle.std.proofs.Common.{slice_get}
use Rattle.audit_core.specs.declared.sinks.Sink.TheVariants.{Log, Webhook}
use Rattle.event_offers.specs.Taken.{is_taken}
use Rattle.front_plants.specs.Fresh.{log_opens, hook_opens}
use Rattle.log_conforms.proofs.RunLemmas.{batches_woven, none_at}
use Rattle.log_conforms.proofs.laws.batched_logs_conform.Goals as goal
use Rattle.serve_roles.specs.Doors.{bay_handles}
use Rattle.serve_runs.specs.Served.{run_exchanges}
use Rattle.truncate_backend.specs.Tries.{lines_of}

pub returns : goal.returns
returns g c Log set options before after tables ended served tokens mode =
    let h = bay_handles g.R.Routes g.P.L.Dial g.P.W.BatchSink g.P.H.BatchSink g.P.K.Clock g.P.Y.Diary g.P.D.Door
    g.P.D.C.Source g.P.D.C.ByteSink g.P.D.C.Conn in
    let xs = run_exchanges served in
    let told = c.accepted_lines_are_batched.ensures Log set options before after tables ended served mode in
    let tried = c.lines_of_a_run_conform.ensures set options before after tables ended served tokens is_taken Log (lines_of told.tries)
    (batches_woven h set g.P.W.BatchSink (log_opens g.P.Plant.opens) Log options xs ended.bays.items ended.log served.count
    (λ bay. none_at h set (log_opens g.P.Plant.opens) (hook_opens g.P.Plant.opens options.hook_url) served.boot before.due tables served.logs served.hooks
    bay (slice_get ended.bays.items bay) (served.each bay)) served.log_allots told) in
    record {
      told = told;
      conform = record { tried = tried; written = c.parts_conform.ensures.written set.policy told.tries tried };
    }
returns g c Webhook set options before after tables ended served tokens mode =
    let h = bay_handles g.R.Routes g.P.L.Dial g.P.W.BatchSink g.P.H.BatchSink g.P.K.Clock g.P.Y.Diary g.P.D.Door
    g.P.D.C.Source g.P.D.C.ByteSink g.P.D.C.Conn in
    let xs = run_exchanges served in
    let told = c.accepted_lines_are_batched.ensures Webhook set options before after tables ended served mode in
    let tried = c.lines_of_a_run_conform.ensures set options before after tables ended served tokens is_taken Webhook (lines_of told.tries)
    (batches_woven h set g.P.H.BatchSink (hook_opens g.P.Plant.opens options.hook_url) Webhook options xs ended.bays.items ended.hook served.count
    (λ bay. none_at h set (log_opens g.P.Plant.opens) (hook_opens g.P.Plant.opens options.hook_url) served.boot before.due tables served.logs served.hooks
    bay (slice_get ended.bays.items bay) (served.each bay)) served.hook_allots told) in
    record {
      told = told;
      conform = record { tried = tried; written = c.parts_conform.ensures.written set.policy told.tries tried };
    }
