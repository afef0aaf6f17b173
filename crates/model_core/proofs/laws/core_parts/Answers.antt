use Rattle.model_core.proofs.Always.{buffers_always, tries_always, closed_always, current_always, changes_always}
use Rattle.model_core.proofs.BeginLemmas.{begins_always, numbers_always}
use Rattle.model_core.proofs.laws.core_parts.Goals as goal

pub returns-clause-buffers : goal.returns-clause-buffers
returns-clause-buffers c setup bays steps sink e =
    buffers_always setup bays steps sink (c.lines_stay_in_order.ensures setup bays steps) e

pub returns-clause-tries : goal.returns-clause-tries
returns-clause-tries c = tries_always

pub returns-clause-closed : goal.returns-clause-closed
returns-clause-closed c = closed_always

pub returns-clause-current : goal.returns-clause-current
returns-clause-current c = current_always

pub returns-clause-changes : goal.returns-clause-changes
returns-clause-changes c = changes_always

pub returns-clause-begins : goal.returns-clause-begins
returns-clause-begins c = begins_always

pub returns-clause-numbers : goal.returns-clause-numbers
returns-clause-numbers c = numbers_always
