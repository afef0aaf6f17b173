use Rattle.std.proofs.Common.{List, ℕ, [], ◌∷◌, ◌++◌, ◌≡◌, ap, ◌∙◌, subst}
use Rattle.front_base.specs.Line.{Line}
use Rattle.log_sink.specs.Buffered.{Follows, Stops}
use Rattle.log_sink.proofs.BufferLemmas.{then-stops, stays-stopped, err-maps}
use Rattle.log_sink.proofs.buffer.Buffer.add_line.Goals as goal

pub returns-in-Ok-clause-err : goal.returns-in-Ok-clause-err
returns-in-Ok-clause-err g c =
    let o = c.args.self.now in
    let l = c.add.new.self in
    let n = c.add-in-Ok.new.self in
    let a = g.W.ByteSink.written o.out in
    let b = g.W.ByteSink.written l.out in
    let d = g.W.ByteSink.written n.out in
    let e : c.as_slice.result.now ≡ c.args.line.now.bytes = c.as_slice.ensures ∙ ap (λ (l : Line). l.bytes) c.line.view_is in
    let f = subst (λ (z : List ℕ). Follows a o.sent o.bytes.items z b l.sent l.bytes.items) e c.in-Ok.ensures.ok in
    err-maps c.add-in-Ok.result (Stops b l.sent l.bytes.items (10 ∷ []) d n.sent) (Stops a o.sent o.bytes.items (c.args.line.now.bytes ++ 10 ∷ []) d n.sent)
    (then-stops a b d o.sent l.sent n.sent o.bytes.items l.bytes.items c.args.line.now.bytes (10 ∷ []) f) c.add-in-Ok.ensures.err

pub returns-in-Err-clause-err : goal.returns-in-Err-clause-err
returns-in-Err-clause-err g c =
    let o = c.args.self.now in
    let n = c.add.new.self in
    let a = g.W.ByteSink.written o.out in
    let b = g.W.ByteSink.written n.out in
    let e : c.as_slice.result.now ≡ c.args.line.now.bytes = c.as_slice.ensures ∙ ap (λ (l : Line). l.bytes) c.line.view_is in
    let f = subst (λ (z : List ℕ). Stops a o.sent o.bytes.items z b n.sent) e c.in-Err.ensures.err in
    stays-stopped a b o.sent n.sent o.bytes.items c.args.line.now.bytes (10 ∷ []) f
