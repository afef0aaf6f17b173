use Rattle.std.proofs.Common.{◌≡◌, ◌≤◌, ◌+◌, ◌*◌, length, take}
use Rattle.webhook_sink.specs.Buffered.{Follows}
use Rattle.webhook_sink.specs.Lists.{lines_text}
use Rattle.webhook_sink.proofs.buffer.SendBuffer.add_lines.Given as goal

abbrev pub invariant-loop-index : goal.invariant-loop-index
invariant-loop-index g l = record {
  follows : Follows (g.W.ByteSink.written l.fn.out) l.fn.self.sent l.fn.self.bytes.items (lines_text (take l.index l.lines))
      (g.W.ByteSink.written l.out) l.self.sent l.self.bytes.items;
  bound : l.self.sent + length l.self.bytes.items ≤ l.fn.self.sent + length l.fn.self.bytes.items + 4194305 * l.index;
  aside : g.W.ByteSink.inward l.out ≡ g.W.ByteSink.inward l.fn.out;
  calm : g.W.ByteSink.write_faults l.out ≡ g.W.ByteSink.write_faults l.fn.out;
}
