use Rattle.cases_sinks.proofs.Lanes.{one_new}
use Rattle.cases_sinks.proofs.queues.queue.Goals as goal

pub returns-in-Some : goal.returns-in-Some
returns-in-Some g c = one_new _ _ _ _ _ _ c.in-Ok.ensures c.requires.one c.in-Some.ensures.items
