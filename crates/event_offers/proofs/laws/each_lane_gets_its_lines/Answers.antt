use Rattle.event_offers.specs.Taken.{is_taken, is_tried}
use Rattle.event_offers.proofs.TakenLemmas.{gets_all, adds_accepted, adds_tried}
use Rattle.truncate_backend.specs.Lanes.{LaneTells}
use Rattle.event_offers.proofs.laws.each_lane_gets_its_lines.Goals as goal

pub returns-clause-accepted : goal.returns-clause-accepted
returns-clause-accepted c = gets_all (λ (t : LaneTells). t.accepted) is_taken adds_accepted c.lists_join.ensures.lines

pub returns-clause-tried : goal.returns-clause-tried
returns-clause-tried c = gets_all (λ (t : LaneTells). t.tried) is_tried adds_tried c.lists_join.ensures.lines
