use Rattle.exchange_replies.proofs.StatusLemmas.{errand_final, handling_final}
use Rattle.exchange_replies.proofs.statuses.statuses_are_final.Goals as goal

pub returns-clause-errand : goal.returns-clause-errand
returns-clause-errand c = errand_final

pub returns-clause-handling : goal.returns-clause-handling
returns-clause-handling c = handling_final
