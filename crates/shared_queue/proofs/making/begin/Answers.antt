use Rattle.shared_queue.proofs.Steps.{begins}
use Rattle.shared_queue.proofs.making.begin.Goals as goal

pub ruled-requires-clause-rule : goal.ruled-requires-clause-rule
ruled-requires-clause-rule c = begins
