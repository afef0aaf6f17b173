use Rattle.std.proofs.Common.{◌≡◌, ◌-◌, length}
use Rattle.http_head.specs.declared.block.TheConstants.{MOST_HEAD_BYTES}
use Rattle.http_head.specs.Block.{IsSearched}
use Rattle.webhook_sink.specs.Replies.{Seen}
use Rattle.webhook_sink.proofs.reply.Intake.fill.Given as goal

abbrev pub invariant-reading : goal.invariant-reading
invariant-reading g l = record {
  seen : Seen (g.K.Source.left l.fn.link) (g.K.Source.left l.link) l.fn.self.bytes.items l.self.bytes.items;
  searched : IsSearched l.self.bytes.items l.search;
  aside : g.K.Source.outward l.link ≡ g.K.Source.outward l.fn.link;
  calm : g.K.Source.read_faults l.link ≡ g.K.Source.read_faults l.fn.link;
}

abbrev pub decreases-reading : goal.decreases-reading
decreases-reading g l = MOST_HEAD_BYTES - length l.self.bytes.items
