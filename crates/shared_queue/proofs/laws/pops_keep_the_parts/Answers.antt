use Rattle.shared_queue.proofs.Drains.{pop_keeps, all_taken}
use Rattle.shared_queue.proofs.laws.pops_keep_the_parts.Goals as goal

pub returns-clause-pop : goal.returns-clause-pop
returns-clause-pop c = pop_keeps

pub returns-clause-drained : goal.returns-clause-drained
returns-clause-drained c = all_taken
