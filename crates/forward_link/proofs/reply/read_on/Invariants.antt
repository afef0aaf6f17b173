use Rattle.std.proofs.Common.{◌≡◌, ◌≤◌, ◌-◌, vec_len}
use Rattle.wire_intake.specs.Seen.{Seen}
use Rattle.forward_link.specs.declared.reply.TheConstants.{MOST_BODY_READ_BYTES}
use Rattle.forward_link.proofs.reply.read_on.Given as goal

abbrev pub invariant-reading : goal.invariant-reading
invariant-reading g l = record {
  seen : Seen (g.K.Source.left l.fn.link) (g.K.Source.left l.link) l.fn.body.items l.body.items;
  most : vec_len l.body ≤ l.size;
  buffer : vec_len l.buf ≡ MOST_BODY_READ_BYTES;
  aside : g.K.Source.outward l.link ≡ g.K.Source.outward l.fn.link;
  calm : g.K.Source.read_faults l.link ≡ g.K.Source.read_faults l.fn.link;
}

abbrev pub decreases-reading : goal.decreases-reading
decreases-reading g l = l.size - vec_len l.body
