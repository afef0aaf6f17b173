use Rattle.audit_core.proofs.StoryLemmas.{routed_here, rows_here}
use Rattle.audit_core.proofs.laws.one_thread_decides.Goals as goal

pub returns-clause-routed : goal.returns-clause-routed
returns-clause-routed c = routed_here

pub returns-clause-rows : goal.returns-clause-rows
returns-clause-rows c = rows_here
