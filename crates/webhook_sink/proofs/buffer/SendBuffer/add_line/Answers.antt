use Rattle.std.proofs.Common.{List, ℕ, ◌++◌, ◌≡◌, ap, ◌∙◌, subst}
use Rattle.front_base.specs.Line.{Line}
use Rattle.webhook_sink.specs.Buffered.{Follows, Stops}
use Rattle.webhook_sink.specs.Lists.{separator}
use Rattle.webhook_sink.proofs.BufferLemmas.{then-stops, stays-stopped, err-maps}
use Rattle.webhook_sink.proofs.buffer.SendBuffer.add_line.Goals as goal

pub returns-in-Ok-clause-err : goal.returns-in-Ok-clause-err
returns-in-Ok-clause-err g c =
    let o = c.args.self.now in
    let l = c.add.new.self in
    let n = c.add-in-Ok.new.self in
    let a = g.W.ByteSink.written c.args.out.now in
    let b = g.W.ByteSink.written c.add.new.out in
    let d = g.W.ByteSink.written c.add-in-Ok.new.out in
    let e : c.as_slice.result.now ≡ c.args.line.now.bytes = c.as_slice.ensures ∙ ap (λ (l : Line). l.bytes) c.line.view_is in
    let f = subst (λ (z : List ℕ). Follows a o.sent o.bytes.items z b l.sent l.bytes.items) c.separator.ensures.text c.in-Ok.ensures.ok in
    err-maps c.add-in-Ok.result (Stops b l.sent l.bytes.items c.as_slice.result.now d n.sent) (Stops a o.sent o.bytes.items (separator c.args.index ++ c.args.line.now.bytes) d n.sent)
    (λ s. then-stops a b d o.sent l.sent n.sent o.bytes.items l.bytes.items (separator c.args.index) c.args.line.now.bytes f
    (subst (λ (z : List ℕ). Stops b l.sent l.bytes.items z d n.sent) e s)) c.add-in-Ok.ensures.err

pub returns-in-Err-clause-err : goal.returns-in-Err-clause-err
returns-in-Err-clause-err g c =
    let o = c.args.self.now in
    let n = c.add.new.self in
    let a = g.W.ByteSink.written c.args.out.now in
    let b = g.W.ByteSink.written c.add.new.out in
    let f = subst (λ (z : List ℕ). Stops a o.sent o.bytes.items z b n.sent) c.separator.ensures.text c.in-Err.ensures.err in
    stays-stopped a b o.sent n.sent o.bytes.items (separator c.args.index) c.args.line.now.bytes f
