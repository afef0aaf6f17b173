use Rattle.log_ship.proofs.CutLemmas.{one_list}
use Rattle.log_ship.proofs.cut_laws.one_list_of_batches.Goals as goal

pub returns : goal.returns
returns c limits lines batches others p q = one_list limits lines batches others p q
