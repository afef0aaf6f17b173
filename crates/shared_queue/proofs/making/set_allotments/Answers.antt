use Rattle.shared_queue.proofs.Steps.{sets_allotments}
use Rattle.shared_queue.proofs.making.set_allotments.Goals as goal

pub another-spent-requires-clause-rule : goal.another-spent-requires-clause-rule
another-spent-requires-clause-rule g c = let v = c.requires.view in sets_allotments _ _ _ v.0 v.1 v.2 v.3
