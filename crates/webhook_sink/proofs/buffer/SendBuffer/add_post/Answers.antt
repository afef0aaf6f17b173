use Rattle.std.proofs.Common.{ℕ, ◌++◌, subst, length, decimal}
use Rattle.webhook_sink.specs.Buffered.{Follows, Stops}
use Rattle.webhook_sink.specs.Lists.{list_text}
use Rattle.webhook_sink.specs.Posts.{after_length, post_from}
use Rattle.webhook_sink.proofs.BufferLemmas.{then-stops, stays-stopped, err-maps}
use Rattle.webhook_sink.proofs.buffer.SendBuffer.add_post.Goals as goal

pub returns-in-Ok-clause-err : goal.returns-in-Ok-clause-err
returns-in-Ok-clause-err g c =
    let o = c.args.self.now in
    let l = c.add_head.new.self in
    let n = c.add_list.new.self in
    let a = g.W.ByteSink.written c.args.out.now in
    let b = g.W.ByteSink.written c.add_head.new.out in
    let d = g.W.ByteSink.written c.add_list.new.out in
    let ls = c.args.lines.now in
    let head = λ (k : ℕ). c.args.before.now ++ (decimal k ++ after_length) in
    let f = subst (λ (k : ℕ). Follows a o.sent o.bytes.items (head k) b l.sent l.bytes.items) c.list_length.ensures.length c.in-Ok.ensures.ok in
    err-maps c.add_list.result (Stops b l.sent l.bytes.items (list_text ls) d n.sent)
    (Stops a o.sent o.bytes.items (post_from c.args.before.now ls) d n.sent)
    (then-stops a b d o.sent l.sent n.sent o.bytes.items l.bytes.items (head (length (list_text ls))) (list_text ls) f) c.add_list.ensures.err

pub returns-in-Err-clause-err : goal.returns-in-Err-clause-err
returns-in-Err-clause-err g c =
    let o = c.args.self.now in
    let n = c.add_head.new.self in
    let a = g.W.ByteSink.written c.args.out.now in
    let b = g.W.ByteSink.written c.add_head.new.out in
    let ls = c.args.lines.now in
    let head = λ (k : ℕ). c.args.before.now ++ (decimal k ++ after_length) in
    let f = subst (λ (k : ℕ). Stops a o.sent o.bytes.items (head k) b n.sent) c.list_length.ensures.length c.in-Err.ensures.err in
    stays-stopped a b o.sent n.sent o.bytes.items (head (length (list_text ls))) (list_text ls) f
