use Rattle.std.proofs.Common.{◌≡◌}
use Rattle.webhook_sink.specs.Replies.{Passed}
use Rattle.webhook_sink.proofs.reply.Intake.read_reply.Given as goal

abbrev pub invariant-passing : goal.invariant-passing
invariant-passing g l = record {
  passed : Passed (g.K.Source.left l.fn.link) (g.K.Source.left l.link) l.self.bytes.items l.more;
  aside : g.K.Source.outward l.link ≡ g.K.Source.outward l.fn.link;
  calm : g.K.Source.read_faults l.link ≡ g.K.Source.read_faults l.fn.link;
}

abbrev pub decreases-passing : goal.decreases-passing
decreases-passing g l = l.more
