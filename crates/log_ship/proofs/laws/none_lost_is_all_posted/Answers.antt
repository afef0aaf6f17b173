use Rattle.log_ship.proofs.CountLemmas.{none_lost}
use Rattle.log_ship.proofs.laws.none_lost_is_all_posted.Goals as goal

pub returns : goal.returns
returns c = none_lost
