use Rattle.std.proofs.Common.{List, Option, Some, sym, subst}
use Rattle.queue_drain.specs.Drains.{EndsDrain}
use Rattle.queue_drain.specs.declared.drain.QueueDrain.{QueueDrain}
use Rattle.shared_queue.specs.declared.lane.QueueLane.{QueueLane}
use Rattle.sink_lanes.specs.Ends.{Ends, queued_parts}
use Rattle.sink_lanes.proofs.ending.end_lanes.Goals as goal

pub returns-in-Some-clause-queue : goal.returns-in-Some-clause-queue
returns-in-Some-clause-queue g c =
    let says = c.finish.ensures in
    let end = c.finish.result in
    subst (λ (z : Option (QueueDrain _ _ _)). Ends g.S.BatchSink g.K.Clock (queued_parts c.args.lanes.items) z (Some end)) (sym c.in-Some.is) (
      subst (λ (z : List (QueueLane _)). EndsDrain c.in-Some.drain.drainer.limits z (g.S.BatchSink.tells end.sink) end.written end.lost end.fulls end.began end.ended (g.K.Clock.given end.clock))
          c.part_lanes-queued.ensures.queued says.ends,
      says.sent,
      says.timed,
    )
