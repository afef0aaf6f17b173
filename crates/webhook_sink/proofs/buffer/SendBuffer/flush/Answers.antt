use Rattle.std.proofs.Common.{List, ℕ, subst, ◌<◌, length, take}
use Rattle.std.specs.Io.KnownBytes.{Appends}
use Rattle.webhook_sink.proofs.BufferLemmas.{flush-stops}
use Rattle.webhook_sink.proofs.buffer.SendBuffer.flush.Goals as goal

pub returns-in-Err-clause-err : goal.returns-in-Err-clause-err
returns-in-Err-clause-err g c =
    let a = g.W.ByteSink.written c.args.out.now in
    let b = g.W.ByteSink.written c.write_counted-written.new.out in
    let n = c.in-Err.count in
    let h = subst (λ (z : List ℕ). (n < length z) × Appends a b (take n z)) c.as_slice.ensures.value c.in-Err.ensures.err in
    flush-stops a b c.args.self.now.bytes.items c.args.self.now.sent n h.0 h.1
