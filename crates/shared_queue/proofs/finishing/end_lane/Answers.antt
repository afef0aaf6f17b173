use Rattle.shared_queue.proofs.Steps.{merges_lane}
use Rattle.shared_queue.proofs.finishing.end_lane.Goals as goal

pub absorb-requires-clause-rule : goal.absorb-requires-clause-rule
absorb-requires-clause-rule g c = merges_lane _ _ _ _ c.requires.makes c.args.lane.pushes
