use Rattle.std.proofs.Common.{◌≡◌, ◌+◌, ◌-◌, ◌≤◌, length, take}
use Rattle.webhook_sink.specs.Buffered.{Follows}
use Rattle.webhook_sink.proofs.buffer.SendBuffer.add.Given as goal

abbrev pub invariant-loop-at : goal.invariant-loop-at
invariant-loop-at g l = record {
  within : l.at ≤ length l.piece;
  follows : Follows (g.W.ByteSink.written l.fn.out) l.fn.self.sent l.fn.self.bytes.items (take l.at l.piece)
      (g.W.ByteSink.written l.out) l.self.sent l.self.bytes.items;
  counted : l.self.sent + length l.self.bytes.items ≡ l.fn.self.sent + length l.fn.self.bytes.items + l.at;
  aside : g.W.ByteSink.inward l.out ≡ g.W.ByteSink.inward l.fn.out;
  calm : g.W.ByteSink.write_faults l.out ≡ g.W.ByteSink.write_faults l.fn.out;
}

abbrev pub decreases-loop-at : goal.decreases-loop-at
decreases-loop-at g l = length l.piece - l.at + length l.self.bytes.items
