use Rattle.std.proofs.Common.{ℕ, List, ap, sym, ◌∙◌}
use Rattle.audit_core.specs.declared.sinks.Sink.TheVariants.{Log, Webhook}
use Rattle.front_plants.specs.Fresh.{log_opens, hook_opens}
use Rattle.alike_runs.proofs.BayLemmas.{same_bays}
use Rattle.alike_runs.proofs.TryLemmas.{same_parts, same_tries, same_turns}
use Rattle.alike_runs.proofs.laws.alike_requests_leave_the_same_lines.Goals as goal
use Rattle.run_laws.specs.Sides.{run_tries}
use Rattle.serve_roles.specs.Doors.{bay_handles}
use Rattle.serve_runs.specs.Served.{run_exchanges}

pub returns-clause-bays : goal.returns-clause-bays
returns-clause-bays g c Log set options one other runs mode alike bay =
    let h = bay_handles g.R.Routes g.P.L.Dial g.P.W.BatchSink g.P.H.BatchSink g.P.K.Clock g.P.Y.Diary g.P.D.Door
    g.P.D.C.Source g.P.D.C.ByteSink g.P.D.C.Conn in
    let b = c.drained_tries_are_batched.ensures Log set options runs.before runs.after runs.tables one runs.ran mode in
    let d = c.drained_tries_are_batched.ensures Log set options runs.begun runs.done runs.others other runs.also mode in
    let each = same_bays h set g.P.W.BatchSink (log_opens g.P.Plant.opens) Log options (run_exchanges runs.ran) (run_exchanges runs.also) one.bays.items other.bays.items one.log other.log
    runs.ran.count runs.also.count (c.alike_requests_make_alike_bays.ensures set options one other runs alike) c.alike_exchanges_owe_alike.ensures.taken
    runs.ran.log_allots runs.also.log_allots b.told d.told in
    same_parts b.told.tries d.told.tries (run_tries runs.ran Log) (run_tries runs.also Log) b.tries_are d.tries_are each bay
returns-clause-bays g c Webhook set options one other runs mode alike bay =
    let h = bay_handles g.R.Routes g.P.L.Dial g.P.W.BatchSink g.P.H.BatchSink g.P.K.Clock g.P.Y.Diary g.P.D.Door
    g.P.D.C.Source g.P.D.C.ByteSink g.P.D.C.Conn in
    let b = c.drained_tries_are_batched.ensures Webhook set options runs.before runs.after runs.tables one runs.ran mode in
    let d = c.drained_tries_are_batched.ensures Webhook set options runs.begun runs.done runs.others other runs.also mode in
    let each = same_bays h set g.P.H.BatchSink (hook_opens g.P.Plant.opens options.hook_url) Webhook options (run_exchanges runs.ran) (run_exchanges runs.also) one.bays.items other.bays.items one.hook other.hook
    runs.ran.count runs.also.count (c.alike_requests_make_alike_bays.ensures set options one other runs alike) c.alike_exchanges_owe_alike.ensures.taken
    runs.ran.hook_allots runs.also.hook_allots b.told d.told in
    same_parts b.told.tries d.told.tries (run_tries runs.ran Webhook) (run_tries runs.also Webhook) b.tries_are d.tries_are each bay

pub returns-clause-lines : goal.returns-clause-lines
returns-clause-lines g c Log set options one other runs mode alike turns =
    let h = bay_handles g.R.Routes g.P.L.Dial g.P.W.BatchSink g.P.H.BatchSink g.P.K.Clock g.P.Y.Diary g.P.D.Door
    g.P.D.C.Source g.P.D.C.ByteSink g.P.D.C.Conn in
    let b = c.drained_tries_are_batched.ensures Log set options runs.before runs.after runs.tables one runs.ran mode in
    let d = c.drained_tries_are_batched.ensures Log set options runs.begun runs.done runs.others other runs.also mode in
    let each = same_bays h set g.P.W.BatchSink (log_opens g.P.Plant.opens) Log options (run_exchanges runs.ran) (run_exchanges runs.also) one.bays.items other.bays.items one.log other.log
    runs.ran.count runs.also.count (c.alike_requests_make_alike_bays.ensures set options one other runs alike) c.alike_exchanges_owe_alike.ensures.taken
    runs.ran.log_allots runs.also.log_allots b.told d.told in
    same_turns c.parts_make_lines.ensures b.told.tries d.told.tries (run_tries runs.ran Log) (run_tries runs.also Log) b.tries_are d.tries_are each turns
returns-clause-lines g c Webhook set options one other runs mode alike turns =
    let h = bay_handles g.R.Routes g.P.L.Dial g.P.W.BatchSink g.P.H.BatchSink g.P.K.Clock g.P.Y.Diary g.P.D.Door
    g.P.D.C.Source g.P.D.C.ByteSink g.P.D.C.Conn in
    let b = c.drained_tries_are_batched.ensures Webhook set options runs.before runs.after runs.tables one runs.ran mode in
    let d = c.drained_tries_are_batched.ensures Webhook set options runs.begun runs.done runs.others other runs.also mode in
    let each = same_bays h set g.P.H.BatchSink (hook_opens g.P.Plant.opens options.hook_url) Webhook options (run_exchanges runs.ran) (run_exchanges runs.also) one.bays.items other.bays.items one.hook other.hook
    runs.ran.count runs.also.count (c.alike_requests_make_alike_bays.ensures set options one other runs alike) c.alike_exchanges_owe_alike.ensures.taken
    runs.ran.hook_allots runs.also.hook_allots b.told d.told in
    same_turns c.parts_make_lines.ensures b.told.tries d.told.tries (run_tries runs.ran Webhook) (run_tries runs.also Webhook) b.tries_are d.tries_are each turns

pub returns-clause-tries : goal.returns-clause-tries
returns-clause-tries g c Log set options one other runs mode alike turns many =
    let h = bay_handles g.R.Routes g.P.L.Dial g.P.W.BatchSink g.P.H.BatchSink g.P.K.Clock g.P.Y.Diary g.P.D.Door
    g.P.D.C.Source g.P.D.C.ByteSink g.P.D.C.Conn in
    let b = c.drained_tries_are_batched.ensures Log set options runs.before runs.after runs.tables one runs.ran mode in
    let d = c.drained_tries_are_batched.ensures Log set options runs.begun runs.done runs.others other runs.also mode in
    let each = same_bays h set g.P.W.BatchSink (log_opens g.P.Plant.opens) Log options (run_exchanges runs.ran) (run_exchanges runs.also) one.bays.items other.bays.items one.log other.log
    runs.ran.count runs.also.count (c.alike_requests_make_alike_bays.ensures set options one other runs alike) c.alike_exchanges_owe_alike.ensures.taken
    runs.ran.log_allots runs.also.log_allots b.told d.told in
    same_tries c.parts_make_lines.ensures c.cuts_part_lines.ensures.each b.told.tries d.told.tries (run_tries runs.ran Log) (run_tries runs.also Log)
    b.tries_are d.tries_are each turns many
returns-clause-tries g c Webhook set options one other runs mode alike turns many =
    let h = bay_handles g.R.Routes g.P.L.Dial g.P.W.BatchSink g.P.H.BatchSink g.P.K.Clock g.P.Y.Diary g.P.D.Door
    g.P.D.C.Source g.P.D.C.ByteSink g.P.D.C.Conn in
    let b = c.drained_tries_are_batched.ensures Webhook set options runs.before runs.after runs.tables one runs.ran mode in
    let d = c.drained_tries_are_batched.ensures Webhook set options runs.begun runs.done runs.others other runs.also mode in
    let each = same_bays h set g.P.H.BatchSink (hook_opens g.P.Plant.opens options.hook_url) Webhook options (run_exchanges runs.ran) (run_exchanges runs.also) one.bays.items other.bays.items one.hook other.hook
    runs.ran.count runs.also.count (c.alike_requests_make_alike_bays.ensures set options one other runs alike) c.alike_exchanges_owe_alike.ensures.taken
    runs.ran.hook_allots runs.also.hook_allots b.told d.told in
    same_tries c.parts_make_lines.ensures c.cuts_part_lines.ensures.each b.told.tries d.told.tries (run_tries runs.ran Webhook) (run_tries runs.also Webhook)
    b.tries_are d.tries_are each turns many
