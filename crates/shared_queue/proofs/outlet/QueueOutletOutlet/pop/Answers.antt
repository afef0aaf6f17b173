use Rattle.shared_queue.proofs.Steps.{pops}
use Rattle.shared_queue.proofs.outlet.QueueOutletOutlet.pop.Goals as goal

pub pop_as-requires-clause-rule : goal.pop_as-requires-clause-rule
pop_as-requires-clause-rule g c = (pops _ _ c.args.self.now.pops.0, λ items views k at. tt)
