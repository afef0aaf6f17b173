use Rattle.event_offers.proofs.JoinLemmas.{join}
use Rattle.event_offers.proofs.laws.offers_join.Goals as goal

pub returns : goal.returns
returns c = join
