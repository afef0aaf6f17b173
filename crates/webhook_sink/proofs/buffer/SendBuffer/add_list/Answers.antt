use Rattle.std.proofs.Common.{List, ℕ, ◌++◌, subst}
use Rattle.webhook_sink.specs.Buffered.{Follows, Stops}
use Rattle.webhook_sink.specs.Lists.{list_head, list_tail, lines_text, list_text}
use Rattle.webhook_sink.proofs.BufferLemmas.{then-stops, stays-stopped, err-maps}
use Rattle.webhook_sink.proofs.buffer.SendBuffer.add_list.Goals as goal

pub returns-in-Err-clause-err : goal.returns-in-Err-clause-err
returns-in-Err-clause-err g c =
    let o = c.args.self.now in
    let n = c.add.new.self in
    let a = g.W.ByteSink.written c.args.out.now in
    let b = g.W.ByteSink.written c.add.new.out in
    stays-stopped a b o.sent n.sent o.bytes.items list_head (lines_text c.args.lines.now ++ list_tail)
    (subst (λ (z : List ℕ). Stops a o.sent o.bytes.items z b n.sent) c.list_head.ensures.text c.in-Err.ensures.err)

pub returns-in-Ok-add_lines-clause-err : goal.returns-in-Ok-add_lines-clause-err
returns-in-Ok-add_lines-clause-err g c =
    let o = c.args.self.now in
    let l = c.add.new.self in
    let m = c.add_lines.new.self in
    let n = c.add-in-Ok-add_lines.new.self in
    let a = g.W.ByteSink.written c.args.out.now in
    let b = g.W.ByteSink.written c.add.new.out in
    let d = g.W.ByteSink.written c.add_lines.new.out in
    let e = g.W.ByteSink.written c.add-in-Ok-add_lines.new.out in
    let ls = c.args.lines.now in
    let h = subst (λ (z : List ℕ). Follows a o.sent o.bytes.items z b l.sent l.bytes.items) c.list_head.ensures.text c.in-Ok.ensures.ok in
    err-maps c.add-in-Ok-add_lines.result (Stops d m.sent m.bytes.items c.list_tail.result.now e n.sent)
    (Stops a o.sent o.bytes.items (list_text ls) e n.sent)
    (λ s. then-stops a b e o.sent l.sent n.sent o.bytes.items l.bytes.items list_head (lines_text ls ++ list_tail) h
    (then-stops b d e l.sent m.sent n.sent l.bytes.items m.bytes.items (lines_text ls) list_tail c.in-Ok-add_lines.ensures.ok
    (subst (λ (z : List ℕ). Stops d m.sent m.bytes.items z e n.sent) c.list_tail.ensures.text s))) c.add-in-Ok-add_lines.ensures.err

pub returns-in-Err-add_lines-clause-err : goal.returns-in-Err-add_lines-clause-err
returns-in-Err-add_lines-clause-err g c =
    let o = c.args.self.now in
    let l = c.add.new.self in
    let m = c.add_lines.new.self in
    let a = g.W.ByteSink.written c.args.out.now in
    let b = g.W.ByteSink.written c.add.new.out in
    let d = g.W.ByteSink.written c.add_lines.new.out in
    let ls = c.args.lines.now in
    let h = subst (λ (z : List ℕ). Follows a o.sent o.bytes.items z b l.sent l.bytes.items) c.list_head.ensures.text c.in-Ok.ensures.ok in
    then-stops a b d o.sent l.sent m.sent o.bytes.items l.bytes.items list_head (lines_text ls ++ list_tail) h
    (stays-stopped b d l.sent m.sent l.bytes.items (lines_text ls) list_tail c.in-Err-add_lines.ensures.err)
