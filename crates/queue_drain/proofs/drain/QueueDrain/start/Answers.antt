use Rattle.std.proofs.Common.{ap, List, Some, ◌≡◌}
use Rattle.batch_backend.specs.Batches.{Drained}
use Rattle.front_base.specs.Line.{Line}
use Rattle.queue_drain.proofs.AccountLemmas.{accounts_none}
use Rattle.queue_drain.proofs.TurnLemmas.{turned_first}
use Rattle.queue_drain.proofs.drain.QueueDrain.start.Goals as goal

same_some : (xs ys : List Line) → Some xs ≡ Some ys → xs ≡ ys
same_some xs ys e = cc

pub returns-clause-accounts : goal.returns-clause-accounts
returns-clause-accounts g c =
    let sink = c.requires.sink in
    let given = c.now-began.ensures in
    accounts_none _ _ _ _ _ _ _ _ (g.S.BatchSink.tells c.args.sink) (same_some _ _ c.requires.outlet)
    (ap (λ (d : Drained). d.pending.lines) c.in_ok-drainer.ensures.new) sink.0 sink.1 sink.2 given.last
    (turned_first _ _ _ _ given.given c.requires.clock)
