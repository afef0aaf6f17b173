use Rattle.shared_queue.proofs.LaneLemmas.{lane_parts}
use Rattle.shared_queue.proofs.laws.lanes_keep_their_parts.Goals as goal

pub returns : goal.returns
returns g c = lane_parts
