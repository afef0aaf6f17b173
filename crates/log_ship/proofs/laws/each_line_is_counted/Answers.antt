use Rattle.log_ship.proofs.CountLemmas.{each_counted}
use Rattle.log_ship.proofs.laws.each_line_is_counted.Goals as goal

pub returns : goal.returns
returns c = each_counted
