use Rattle.std.proofs.Common.{ℕ, ◌≡◌, ◌⊎◌, inl, inr, subst, List}
use Rattle.any_lane.specs.declared.lane.AnyLane.{AnyLane}
use Rattle.audit_core.specs.declared.sinks.Sink.TheVariants.{Log, Webhook}
use Rattle.audit_core.specs.declared.sinks.SinkMode.{SinkMode}
use Rattle.audit_core.specs.declared.sinks.SinkMode.TheVariants.{Blocking, Strict}
use Rattle.front_plants.specs.Fresh.{SinkOpens, log_opens, hook_opens}
use Rattle.front_ports.specs.declared.clock.Clock as clocks
use Rattle.serve_bays.specs.Served.{IsOwn, SinkServed}
use Rattle.serve_bays.specs.declared.options.RunOptions.{RunOptions}
use Rattle.alike_runs.proofs.BayLemmas.{same_own}
use Rattle.alike_runs.proofs.laws.same_audit_at_once.Goals as goal
use Rattle.serve_roles.specs.Doors.{bay_handles}
use Rattle.serve_runs.specs.Served.{run_exchanges}
use Rattle.sink_lanes.specs.declared.ending.SinkEnd.{SinkEnd}
use Rattle.truncate_backend.specs.declared.sink.BatchSink as sinks

are_own : {S T K : Type 0} (s : sinks.Ghosts S) (k : clocks.Ghosts K) (opens : SinkOpens) (mode : SinkMode) (options : RunOptions) (allots : List ℕ) (lanes : List (AnyLane S T)) (end : SinkEnd S K)
    → (mode ≡ Blocking) ⊎ (mode ≡ Strict) → SinkServed s k opens mode options.bays options.buffer allots options.limits lanes end
    → IsOwn options.bays lanes end
are_own s k opens mode options allots lanes end (inl e) h = subst (λ m. SinkServed s k opens m options.bays options.buffer allots options.limits lanes end) e h
are_own s k opens mode options allots lanes end (inr e) h = subst (λ m. SinkServed s k opens m options.bays options.buffer allots options.limits lanes end) e h

pub returns : goal.returns
returns g c Log set options one other runs mode opened alike cut =
    let h = bay_handles g.R.Routes g.P.L.Dial g.P.W.BatchSink g.P.H.BatchSink g.P.K.Clock g.P.Y.Diary g.P.D.Door
    g.P.D.C.Source g.P.D.C.ByteSink g.P.D.C.Conn in
    same_own h set g.P.W.BatchSink (log_opens g.P.Plant.opens) Log options (run_exchanges runs.ran) (run_exchanges runs.also) one.bays.items other.bays.items one.log other.log
    runs.ran.count runs.also.count alike c.alike_exchanges_owe_alike.ensures.tried c.cut_alike_sent_alike.ensures c.cuts_part_lines.ensures.single opened
    (are_own g.P.W.BatchSink g.P.K.Clock (log_opens g.P.Plant.opens) set.log options runs.ran.log_allots runs.ran.logs one.log mode runs.ran.log).count
    (are_own g.P.W.BatchSink g.P.K.Clock (log_opens g.P.Plant.opens) set.log options runs.also.log_allots runs.also.logs other.log mode runs.also.log).count
    (c.tried_lines_are_those_offered.ensures Log set options runs.before runs.after runs.tables one runs.ran mode)
    (c.tried_lines_are_those_offered.ensures Log set options runs.begun runs.done runs.others other runs.also mode)
    cut
returns g c Webhook set options one other runs mode opened alike cut =
    let h = bay_handles g.R.Routes g.P.L.Dial g.P.W.BatchSink g.P.H.BatchSink g.P.K.Clock g.P.Y.Diary g.P.D.Door
    g.P.D.C.Source g.P.D.C.ByteSink g.P.D.C.Conn in
    same_own h set g.P.H.BatchSink (hook_opens g.P.Plant.opens options.hook_url) Webhook options (run_exchanges runs.ran) (run_exchanges runs.also) one.bays.items other.bays.items one.hook other.hook
    runs.ran.count runs.also.count alike c.alike_exchanges_owe_alike.ensures.tried c.cut_alike_sent_alike.ensures c.cuts_part_lines.ensures.single opened
    (are_own g.P.H.BatchSink g.P.K.Clock (hook_opens g.P.Plant.opens options.hook_url) set.hook options runs.ran.hook_allots runs.ran.hooks one.hook mode runs.ran.hook).count
    (are_own g.P.H.BatchSink g.P.K.Clock (hook_opens g.P.Plant.opens options.hook_url) set.hook options runs.also.hook_allots runs.also.hooks other.hook mode runs.also.hook).count
    (c.tried_lines_are_those_offered.ensures Webhook set options runs.before runs.after runs.tables one runs.ran mode)
    (c.tried_lines_are_those_offered.ensures Webhook set options runs.begun runs.done runs.others other runs.also mode)
    cut
