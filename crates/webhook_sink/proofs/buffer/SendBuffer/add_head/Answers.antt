use Rattle.std.proofs.Common.{List, ℕ, ◌++◌, ◌≡◌, ◌∙◌, subst, decimal}
use Rattle.webhook_sink.specs.Buffered.{Follows, Stops}
use Rattle.webhook_sink.specs.Posts.{after_length}
use Rattle.webhook_sink.proofs.BufferLemmas.{then-stops, stays-stopped, err-maps}
use Rattle.webhook_sink.proofs.buffer.SendBuffer.add_head.Goals as goal

pub returns-in-Err-clause-err : goal.returns-in-Err-clause-err
returns-in-Err-clause-err g c =
    let o = c.args.self.now in
    stays-stopped (g.W.ByteSink.written c.args.out.now) (g.W.ByteSink.written c.add.new.out) o.sent c.add.new.self.sent o.bytes.items
    c.args.before.now (decimal c.args.size ++ after_length) c.in-Err.ensures.err

pub returns-in-Ok-add-clause-err : goal.returns-in-Ok-add-clause-err
returns-in-Ok-add-clause-err g c =
    let o = c.args.self.now in
    let l = c.add.new.self in
    let m = c.add-2.new.self in
    let n = c.add-in-Ok-add.new.self in
    let a = g.W.ByteSink.written c.args.out.now in
    let b = g.W.ByteSink.written c.add.new.out in
    let d = g.W.ByteSink.written c.add-2.new.out in
    let e = g.W.ByteSink.written c.add-in-Ok-add.new.out in
    let t : c.as_bytes.result.now ≡ decimal c.args.size = c.as_bytes.ensures.value ∙ c.format.ensures.text in
    let f = subst (λ (z : List ℕ). Follows b l.sent l.bytes.items z d m.sent m.bytes.items) t c.in-Ok-add.ensures.ok in
    err-maps c.add-in-Ok-add.result (Stops d m.sent m.bytes.items c.after_length.result.now e n.sent)
    (Stops a o.sent o.bytes.items (c.args.before.now ++ (decimal c.args.size ++ after_length)) e n.sent)
    (λ s. then-stops a b e o.sent l.sent n.sent o.bytes.items l.bytes.items c.args.before.now (decimal c.args.size ++ after_length) c.in-Ok.ensures.ok
    (then-stops b d e l.sent m.sent n.sent l.bytes.items m.bytes.items (decimal c.args.size) after_length f
    (subst (λ (z : List ℕ). Stops d m.sent m.bytes.items z e n.sent) c.after_length.ensures.text s))) c.add-in-Ok-add.ensures.err

pub returns-in-Err-add-clause-err : goal.returns-in-Err-add-clause-err
returns-in-Err-add-clause-err g c =
    let o = c.args.self.now in
    let l = c.add.new.self in
    let m = c.add-2.new.self in
    let a = g.W.ByteSink.written c.args.out.now in
    let b = g.W.ByteSink.written c.add.new.out in
    let d = g.W.ByteSink.written c.add-2.new.out in
    let t : c.as_bytes.result.now ≡ decimal c.args.size = c.as_bytes.ensures.value ∙ c.format.ensures.text in
    let f = subst (λ (z : List ℕ). Stops b l.sent l.bytes.items z d m.sent) t c.in-Err-add.ensures.err in
    then-stops a b d o.sent l.sent m.sent o.bytes.items l.bytes.items c.args.before.now (decimal c.args.size ++ after_length) c.in-Ok.ensures.ok
    (stays-stopped b d l.sent m.sent l.bytes.items (decimal c.args.size) after_length f)
