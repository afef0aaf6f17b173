use Rattle.connection_laws.proofs.WholeLemmas.{told_whole}
use Rattle.connection_laws.proofs.laws.a_connection_is_told_whole.Goals as goal

pub returns : goal.returns
returns c = told_whole c.offers_join.ensures
