use Rattle.event_offers.proofs.OutcomeLemmas.{become}
use Rattle.event_offers.proofs.laws.only_these_outcomes.Goals as goal

pub returns : goal.returns
returns c = become
