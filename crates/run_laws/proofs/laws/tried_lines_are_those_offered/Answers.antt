use Rattle.audit_core.specs.declared.sinks.Sink.TheVariants.{Log, Webhook}
use Rattle.front_plants.specs.Fresh.{log_opens, hook_opens}
use Rattle.run_laws.proofs.LaneLemmas.{are_own, log_tries, hook_tries}
use Rattle.run_laws.proofs.laws.tried_lines_are_those_offered.Goals as goal
use Rattle.serve_roles.specs.Doors.{bay_handles}

pub returns : goal.returns
returns g c Log set options before after tables ended served mode =
    let h = bay_handles g.R.Routes g.P.L.Dial g.P.W.BatchSink g.P.H.BatchSink g.P.K.Clock g.P.Y.Diary g.P.D.Door
    g.P.D.C.Source g.P.D.C.ByteSink g.P.D.C.Conn in
    log_tries h set (log_opens g.P.Plant.opens) (hook_opens g.P.Plant.opens options.hook_url) served.boot before.due tables served.logs served.hooks c.new_sinks_send_their_tries.ensures
    (record { none = c.own_sinks_stay.ensures.none; join = c.own_sinks_stay.ensures.join; single = c.first_tries_join.ensures.single }) c.each_lane_gets_its_lines.ensures.tried
    options.bays ended.bays.items ended.log served.each
    (are_own g.P.W.BatchSink g.P.K.Clock (log_opens g.P.Plant.opens) set.log options served.log_allots served.logs ended.log mode served.log)
returns g c Webhook set options before after tables ended served mode =
    let h = bay_handles g.R.Routes g.P.L.Dial g.P.W.BatchSink g.P.H.BatchSink g.P.K.Clock g.P.Y.Diary g.P.D.Door
    g.P.D.C.Source g.P.D.C.ByteSink g.P.D.C.Conn in
    hook_tries h set (log_opens g.P.Plant.opens) (hook_opens g.P.Plant.opens options.hook_url) served.boot before.due tables served.logs served.hooks c.new_sinks_send_their_tries.ensures
    (record { none = c.own_sinks_stay.ensures.none; join = c.own_sinks_stay.ensures.join; single = c.first_tries_join.ensures.single }) c.each_lane_gets_its_lines.ensures.tried
    options.bays ended.bays.items ended.hook served.each
    (are_own g.P.H.BatchSink g.P.K.Clock (hook_opens g.P.Plant.opens options.hook_url) set.hook options served.hook_allots served.hooks ended.hook mode served.hook)
