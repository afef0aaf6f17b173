use Rattle.stage_event.proofs.ViewLemmas.{user-shown, acting-shown}
use Rattle.stage_event.proofs.laws.both_users_are_shown.Goals as goal

pub returns-clause-user : goal.returns-clause-user
returns-clause-user c = user-shown

pub returns-clause-acting : goal.returns-clause-acting
returns-clause-acting c = acting-shown
