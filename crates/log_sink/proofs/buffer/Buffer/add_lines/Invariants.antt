use Rattle.std.proofs.Common.{◌≡◌, ◌≤◌, ◌*◌, length, take}
use Rattle.log_sink.specs.Buffered.{Buffered}
use Rattle.log_sink.specs.Texts.{log_text}
use Rattle.log_sink.proofs.buffer.Buffer.add_lines.Given as goal

abbrev pub invariant-loop-line : goal.invariant-loop-line
invariant-loop-line g l = record {
  buffered : Buffered (g.W.ByteSink.written l.fn.self.out) (g.W.ByteSink.written l.self.out)
      (log_text (take l.line-index l.lines)) l.self.sent l.self.bytes.items;
  bound : length (log_text (take l.line-index l.lines)) ≤ 4194305 * l.line-index;
  calm : g.W.ByteSink.write_faults l.self.out ≡ g.W.ByteSink.write_faults l.fn.self.out;
}
