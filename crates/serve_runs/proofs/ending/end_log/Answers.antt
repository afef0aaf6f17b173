use Rattle.std.proofs.Common.{arith, ap, sym, subst, ◌∙◌, length}
use Rattle.serve_roles.specs.Ends.{log_lane}
use Rattle.serve_runs.proofs.RunLemmas.{image_count}
use Rattle.serve_runs.proofs.ending.end_log.Goals as goal
use Rattle.sink_lanes.specs.Ends.{CanEnd, Ends, own_parts, queued_parts}

pub end_lanes-log-requires-clause-room : goal.end_lanes-log-requires-clause-room
end_lanes-log-requires-clause-room g c =
    let m = ap length c.end_bays-ends.ensures.logs in
    let k = image_count log_lane c.args.bays.items in
    omega (arith, m, k, c.requires.log_room)

pub end_lanes-log-requires-clause-queue : goal.end_lanes-log-requires-clause-queue
end_lanes-log-requires-clause-queue g c =
    subst (λ z. CanEnd g.W.BatchSink g.K.Clock (queued_parts z) c.args.log) (sym c.end_bays-ends.ensures.logs) c.requires.queue

pub returns-clause-own : goal.returns-clause-own
returns-clause-own g c = c.end_lanes-log.ensures.own ∙ ap own_parts c.end_bays-ends.ensures.logs

pub returns-clause-queue : goal.returns-clause-queue
returns-clause-queue g c =
    subst (λ z. Ends g.W.BatchSink g.K.Clock (queued_parts z) c.args.log c.end_lanes-log.result.drain) c.end_bays-ends.ensures.logs
    c.end_lanes-log.ensures.queue
