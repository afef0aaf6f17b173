use Rattle.event_offers.proofs.OutcomeLemmas.{later_refuse}
use Rattle.event_offers.proofs.laws.later_stages_refuse_nothing.Goals as goal

pub returns : goal.returns
returns c = later_refuse
