use Rattle.std.proofs.Common.{sym, ◌∙◌, arith}
use Rattle.crossbeam_queue.specs.Passes.{view}
use Rattle.shared_queue.specs.Rule.{MayPush}
use Rattle.shared_queue.proofs.Steps.{pushes, crowds}
use Rattle.shared_queue.proofs.lane.QueueLane.push.Goals as goal

pub push-requires-clause-rule : goal.push-requires-clause-rule
push-requires-clause-rule g c =
    let s = c.args.self.now in
    let may : MayPush (view s.pass) = omega (arith, s.allotment_is, s.count_is.0, c.requires.room) in
    (pushes _ _ _ _ s.pushes (c.requires.line ∙ sym s.bay_is) may, crowds _ _ s.pushes)
