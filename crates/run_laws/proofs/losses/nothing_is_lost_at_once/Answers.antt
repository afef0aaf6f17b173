use Rattle.std.proofs.Common.{ℕ, ◌≡◌, ◌⊎◌, inl, inr, subst, List}
use Rattle.any_lane.specs.declared.lane.AnyLane.{AnyLane}
use Rattle.audit_core.specs.declared.sinks.SinkMode.{SinkMode}
use Rattle.audit_core.specs.declared.sinks.SinkMode.TheVariants.{Blocking, Strict}
use Rattle.audit_core.specs.declared.sinks.Sink.TheVariants.{Log, Webhook}
use Rattle.front_plants.specs.Fresh.{SinkOpens, log_opens, hook_opens}
use Rattle.front_ports.specs.declared.clock.Clock as clocks
use Rattle.serve_bays.specs.Served.{IsOwn, SinkServed}
use Rattle.serve_bays.specs.declared.options.RunOptions.{RunOptions}
use Rattle.run_laws.proofs.BayLemmas.{log_tries, hook_tries}
use Rattle.run_laws.proofs.losses.nothing_is_lost_at_once.Goals as goal
use Rattle.serve_roles.specs.Doors.{bay_handles}
use Rattle.sink_lanes.specs.declared.ending.SinkEnd.{SinkEnd}
use Rattle.truncate_backend.specs.declared.sink.BatchSink as sinks

are_own : {S T K : Type 0} (s : sinks.Ghosts S) (k : clocks.Ghosts K) (opens : SinkOpens) (mode : SinkMode) (options : RunOptions) (allots : List ℕ) (lanes : List (AnyLane S T)) (end : SinkEnd S K)
    → (mode ≡ Blocking) ⊎ (mode ≡ Strict) → SinkServed s k opens mode options.bays options.buffer allots options.limits lanes end
    → IsOwn options.bays lanes end
are_own s k opens mode options allots lanes end (inl e) h = subst (λ m. SinkServed s k opens m options.bays options.buffer allots options.limits lanes end) e h
are_own s k opens mode options allots lanes end (inr e) h = subst (λ m. SinkServed s k opens m options.bays options.buffer allots options.limits lanes end) e h

pub returns : goal.returns
returns g c Log set options before after tables ended served mode =
    let h = bay_handles g.R.Routes g.P.L.Dial g.P.W.BatchSink g.P.H.BatchSink g.P.K.Clock g.P.Y.Diary g.P.D.Door
    g.P.D.C.Source g.P.D.C.ByteSink g.P.D.C.Conn in
    log_tries h set (log_opens g.P.Plant.opens) (hook_opens g.P.Plant.opens options.hook_url) served.boot before.due tables served.logs served.hooks c.each_lane_gets_its_lines.ensures.accepted c.each_lane_gets_its_lines.ensures.tried
    c.refusals_are_counted.ensures.full c.refusals_are_counted.ensures.failed
    options.bays ended.bays.items ended.log served.each
    (are_own g.P.W.BatchSink g.P.K.Clock (log_opens g.P.Plant.opens) set.log options served.log_allots served.logs ended.log mode served.log)
returns g c Webhook set options before after tables ended served mode =
    let h = bay_handles g.R.Routes g.P.L.Dial g.P.W.BatchSink g.P.H.BatchSink g.P.K.Clock g.P.Y.Diary g.P.D.Door
    g.P.D.C.Source g.P.D.C.ByteSink g.P.D.C.Conn in
    hook_tries h set (log_opens g.P.Plant.opens) (hook_opens g.P.Plant.opens options.hook_url) served.boot before.due tables served.logs served.hooks c.each_lane_gets_its_lines.ensures.accepted c.each_lane_gets_its_lines.ensures.tried
    c.refusals_are_counted.ensures.full c.refusals_are_counted.ensures.failed
    options.bays ended.bays.items ended.hook served.each
    (are_own g.P.H.BatchSink g.P.K.Clock (hook_opens g.P.Plant.opens options.hook_url) set.hook options served.hook_allots served.hooks ended.hook mode served.hook)
