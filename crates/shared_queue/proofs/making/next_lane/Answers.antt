use Rattle.std.proofs.Common.{ap}
use Rattle.shared_queue.specs.declared.views.View.{View}
use Rattle.shared_queue.proofs.Steps.{forks_lane}
use Rattle.shared_queue.proofs.making.next_lane.Goals as goal

pub another-pass-requires-clause-rule : goal.another-pass-requires-clause-rule
another-pass-requires-clause-rule g c = forks_lane _ _ (ap (λ (v : View). v.makes) c.requires.view)
