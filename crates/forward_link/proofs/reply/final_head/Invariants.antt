use Rattle.std.proofs.Common.{◌≡◌}
use Rattle.forward_link.specs.Reading.{Passed}
use Rattle.forward_link.proofs.reply.final_head.Given as goal

abbrev pub invariant-passing : goal.invariant-passing
invariant-passing g l = record {
  passed : Passed l.is_head (g.K.Source.left l.fn.link) (g.K.Source.left l.link) l.intake l.more;
  aside : g.K.Source.outward l.link ≡ g.K.Source.outward l.fn.link;
  calm : g.K.Source.read_faults l.link ≡ g.K.Source.read_faults l.fn.link;
}

abbrev pub decreases-passing : goal.decreases-passing
decreases-passing g l = l.more
