use Rattle.queue_drain.specs.Drains.{RanDrain}
use Rattle.queue_drain.proofs.drain.QueueDrainRole.run.Given as goal

abbrev pub invariant-loop : goal.invariant-loop
invariant-loop g l = RanDrain g.S.BatchSink g.K.Clock l.initial.self l.self
