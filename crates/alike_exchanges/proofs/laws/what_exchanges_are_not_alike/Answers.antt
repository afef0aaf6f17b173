use Rattle.alike_exchanges.proofs.OwedLemmas.{acting_is_seen, info_is_seen, status_is_seen, target_is_seen, user_is_seen}
use Rattle.alike_exchanges.proofs.laws.what_exchanges_are_not_alike.Goals as goal

pub returns-clause-status : goal.returns-clause-status
returns-clause-status c x y other e = λ a. e (status_is_seen x y a other)

pub returns-clause-target : goal.returns-clause-target
returns-clause-target c x y other e = λ a. e (target_is_seen x y a other)

pub returns-clause-info : goal.returns-clause-info
returns-clause-info c x y other e = λ a. e (info_is_seen x y a other)

pub returns-clause-user : goal.returns-clause-user
returns-clause-user c x y other e = λ a. e (user_is_seen x y a other)

pub returns-clause-acting : goal.returns-clause-acting
returns-clause-acting c x y other e = λ a. e (acting_is_seen x y a other)
