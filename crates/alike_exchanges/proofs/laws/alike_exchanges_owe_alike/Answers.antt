use Rattle.alike_exchanges.proofs.OwedLemmas.{same_due, same_offered, same_owed, same_taken, same_tried}
use Rattle.alike_exchanges.proofs.laws.alike_exchanges_owe_alike.Goals as goal

pub returns-clause-owed : goal.returns-clause-owed
returns-clause-owed c = same_owed

pub returns-clause-due : goal.returns-clause-due
returns-clause-due c = same_due

pub returns-clause-offered : goal.returns-clause-offered
returns-clause-offered c = same_offered

pub returns-clause-taken : goal.returns-clause-taken
returns-clause-taken c = same_taken

pub returns-clause-tried : goal.returns-clause-tried
returns-clause-tried c = same_tried
