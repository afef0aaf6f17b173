use Rattle.model_worlds.proofs.PartLemmas.{parts_always}
use Rattle.model_worlds.proofs.laws.lines_stay_in_order.Goals as goal

pub returns : goal.returns
returns c = parts_always
