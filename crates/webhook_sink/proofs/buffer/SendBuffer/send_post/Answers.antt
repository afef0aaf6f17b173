use Rattle.webhook_sink.specs.Posts.{post_from}
use Rattle.webhook_sink.proofs.BufferLemmas.{wrote-all, wrote-part, wrote-stopped}
use Rattle.webhook_sink.proofs.buffer.SendBuffer.send_post.Goals as goal

pub returns-in-Err-clause-wrote : goal.returns-in-Err-clause-wrote
returns-in-Err-clause-wrote g c =
    let o = c.clear.new.self in
    let n = c.add_post.new.self in
    let e = c.clear.ensures in
    wrote-stopped (g.W.ByteSink.written c.args.out.now) (g.W.ByteSink.written c.add_post.new.out) o.sent n.sent o.bytes.items
    (post_from c.args.before.now c.args.lines.now) e.0 e.1 c.in-Err.ensures.err

pub returns-in-Ok-flush-clause-wrote : goal.returns-in-Ok-flush-clause-wrote
returns-in-Ok-flush-clause-wrote g c =
    let o = c.clear.new.self in
    let m = c.add_post.new.self in
    let n = c.flush.new.self in
    let e = c.clear.ensures in
    wrote-all (g.W.ByteSink.written c.args.out.now) (g.W.ByteSink.written c.add_post.new.out) (g.W.ByteSink.written c.flush.new.out) o.sent m.sent n.sent
    o.bytes.items m.bytes.items (post_from c.args.before.now c.args.lines.now) e.0 e.1 c.in-Ok.ensures.ok c.in-Ok-flush.ensures.ok

pub returns-in-Err-flush-clause-wrote : goal.returns-in-Err-flush-clause-wrote
returns-in-Err-flush-clause-wrote g c =
    let o = c.clear.new.self in
    let m = c.add_post.new.self in
    let n = c.flush.new.self in
    let e = c.clear.ensures in
    wrote-part (g.W.ByteSink.written c.args.out.now) (g.W.ByteSink.written c.add_post.new.out) (g.W.ByteSink.written c.flush.new.out) o.sent m.sent n.sent
    o.bytes.items m.bytes.items (post_from c.args.before.now c.args.lines.now) e.0 e.1 c.in-Ok.ensures.ok c.in-Err-flush.ensures.err
