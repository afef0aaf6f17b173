use Rattle.cases_sinks.proofs.Lanes.{one_back}
use Rattle.cases_sinks.proofs.queues.end_of_three.Goals as goal

pub finish-end-requires : goal.finish-end-requires
finish-end-requires g c = one_back _ _ _ _ c.in_ok-lane.ensures c.offer_three.ensures c.in-Some.ensures
