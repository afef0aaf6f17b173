use Rattle.model_sinks.proofs.StepLemmas.{takes, takes_not}
use Rattle.model_sinks.proofs.taking.take_line.Goals as goal

pub returns-then-can_take-clause-ok : goal.returns-then-can_take-clause-ok
returns-then-can_take-clause-ok c =
    takes c.args.setup.now c.args.sink _ c.args.s.now _ _ c.can_take.ensures c.if-can_take.true c.take_front.ensures.ok

pub returns-else-can_take-clause-ok : goal.returns-else-can_take-clause-ok
returns-else-can_take-clause-ok c =
    takes_not c.args.setup.now c.args.sink _ c.args.s.now c.can_take.ensures c.if-can_take.false
