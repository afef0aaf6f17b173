use Rattle.std.proofs.Common.{List, ℕ, [], ◌∷◌, ◌++◌, ◌+◌, ◌≡◌, arith, sym, subst, ◌∙◌, append-nil, take, drop}
use Rattle.log_sink.specs.Buffered.{Buffered, Stops, Stopped}
use Rattle.log_sink.specs.Texts.{log_text}
use Rattle.log_sink.proofs.BufferLemmas.{err-maps, stopped-in}
use Rattle.log_sink.proofs.TextLemmas.{log-next, log-length, log-split, log-all}
use Rattle.log_sink.proofs.buffer.Buffer.add_lines.Goals as goal

pub returns-in-Err-clause-err : goal.returns-in-Err-clause-err
returns-in-Err-clause-err g c =
    let a = g.W.ByteSink.written c.args.self.now.out in
    let n = c.add_line.new.self in
    let ls = c.args.lines.now in
    let k = c.loop-line.line-index in
    let d = c.line-item.result in
    stopped-in a (g.W.ByteSink.written n.out) (log_text (take k ls) ++ (d.bytes ++ 10 ∷ [])) (log_text (drop (k + 1) ls)) (log_text ls) n.sent
    (log-split ls k d c.loop-line-test.true c.line-item.is) (c.in-Err.ensures.err a (log_text (take k ls)) c.loop-line.invariant.buffered)

pub loop-line-preserved : goal.loop-line-preserved
loop-line-preserved g c =
    let a = g.W.ByteSink.written c.args.self.now.out in
    let n = c.add_line.new.self in
    let b = g.W.ByteSink.written n.out in
    let i = c.loop-line.invariant in
    let ls = c.args.lines.now in
    let k = c.loop-line.line-index in
    let d = c.line-item.result in
    let m = log-next ls k d c.loop-line-test.true c.line-item.is in
    let l = log-length ls k d c.loop-line-test.true c.line-item.is in
    let s = c.add_line.ensures.short in
    let o = i.bound in
    record {
      buffered = subst (λ (z : List ℕ). Buffered a b z n.sent n.bytes.items) (sym m) (c.in-Ok.ensures.ok a (log_text (take k ls)) i.buffered);
      bound = omega arith;
      calm = c.in-Ok.ensures.cause.sound ∙ i.calm;
    }

pub returns-clause-err : goal.returns-clause-err
returns-clause-err g c =
    let l = c.loop-line.self in
    let n = c.flush.new.self in
    let a = g.W.ByteSink.written c.args.self.now.out in
    let b = g.W.ByteSink.written l.out in
    let d = g.W.ByteSink.written n.out in
    let ls = c.args.lines.now in
    let k = c.loop-line.line-index in
    let e : log_text (take k ls) ++ [] ≡ log_text ls = append-nil (log_text (take k ls)) ∙ log-all ls k c.loop-line-test.false in
    err-maps c.flush.result (Stops b l.sent l.bytes.items [] d n.sent) (Stopped a d (log_text ls) n.sent)
    (λ s. subst (λ (z : List ℕ). Stopped a d z n.sent) e (s a (log_text (take k ls)) c.loop-line.invariant.buffered)) c.flush.ensures.err
