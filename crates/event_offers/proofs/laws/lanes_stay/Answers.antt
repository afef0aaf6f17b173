use Rattle.event_offers.proofs.LaneLemmas.{all_stay, bay_stays, few_log, few_hook}
use Rattle.event_offers.proofs.laws.lanes_stay.Goals as goal

pub returns-clause-lanes : goal.returns-clause-lanes
returns-clause-lanes c = all_stay

pub returns-clause-bay : goal.returns-clause-bay
returns-clause-bay c = bay_stays

pub returns-clause-log : goal.returns-clause-log
returns-clause-log c = few_log

pub returns-clause-hook : goal.returns-clause-hook
returns-clause-hook c = few_hook
