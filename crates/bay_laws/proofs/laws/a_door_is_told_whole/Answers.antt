use Rattle.bay_laws.proofs.WholeLemmas.{door_told}
use Rattle.bay_laws.proofs.laws.a_door_is_told_whole.Goals as goal

pub returns : goal.returns
returns g c = door_told c.offers_join.ensures c.a_connection_is_told_whole.ensures
