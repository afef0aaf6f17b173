use Rattle.sink_lanes.proofs.Stay.{stay_together}
use Rattle.sink_lanes.proofs.laws.lanes_stay_together.Goals as goal

pub returns : goal.returns
returns g c = stay_together g.S.BatchSink g.K.Clock c.homes_name_their_queue.ensures c.lanes_keep_their_parts.ensures
