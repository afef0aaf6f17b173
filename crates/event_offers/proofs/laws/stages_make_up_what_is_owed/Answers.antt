use Rattle.event_offers.proofs.StageLemmas.{owed_stages, due-append}
use Rattle.event_offers.proofs.laws.stages_make_up_what_is_owed.Goals as goal

pub returns-clause-owed : goal.returns-clause-owed
returns-clause-owed c = owed_stages

pub returns-clause-due : goal.returns-clause-due
returns-clause-due c = due-append
