use Rattle.alike_exchanges.proofs.SentLemmas.{same_sent}
use Rattle.alike_exchanges.proofs.laws.cut_alike_sent_alike.Goals as goal

pub returns : goal.returns
returns c = same_sent
