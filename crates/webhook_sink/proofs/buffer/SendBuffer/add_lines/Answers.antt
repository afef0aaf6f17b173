use Rattle.std.proofs.Common.{List, ℕ, ◌+◌, ◌++◌, arith, ap, sym, subst, ◌∙◌, take}
use Rattle.webhook_sink.specs.Buffered.{Follows}
use Rattle.webhook_sink.specs.Lists.{separator, lines_text}
use Rattle.webhook_sink.proofs.BufferLemmas.{then-follows, then-stops, stops-in}
use Rattle.webhook_sink.proofs.ListLemmas.{lines-next, lines-rest}
use Rattle.webhook_sink.proofs.buffer.SendBuffer.add_lines.Goals as goal

pub add_line-requires : goal.add_line-requires
add_line-requires g c =
    let b = c.loop-index.invariant.bound in
    let t = c.loop-index-test.true in
    let f = c.requires.few in
    let r = c.requires.room in
    omega arith

pub returns-in-Err-clause-err : goal.returns-in-Err-clause-err
returns-in-Err-clause-err g c =
    let o = c.args.self.now in
    let l = c.loop-index.self in
    let n = c.add_line.new.self in
    let a = g.W.ByteSink.written c.args.out.now in
    let b = g.W.ByteSink.written c.loop-index.out in
    let e = g.W.ByteSink.written c.add_line.new.out in
    let ls = c.args.lines.now in
    let k = c.loop-index.index in
    let d = c.index-lines-index.result in
    let x = lines_text (take k ls) in
    let y = separator k ++ d.bytes in
    let next = lines-next ls k d c.loop-index-test.true c.index-lines-index.is in
    let rest = lines-rest ls (k + 1) in
    stops-in a e o.sent n.sent o.bytes.items (x ++ y) rest.0 (lines_text ls) (ap (λ z. z ++ rest.0) (sym next) ∙ rest.1)
    (then-stops a b e o.sent l.sent n.sent o.bytes.items l.bytes.items x y c.loop-index.invariant.follows c.in-Err.ensures.err)

pub loop-index-preserved : goal.loop-index-preserved
loop-index-preserved g c =
    let o = c.args.self.now in
    let l = c.loop-index.self in
    let n = c.add_line.new.self in
    let a = g.W.ByteSink.written c.args.out.now in
    let b = g.W.ByteSink.written c.loop-index.out in
    let e = g.W.ByteSink.written c.add_line.new.out in
    let ls = c.args.lines.now in
    let k = c.loop-index.index in
    let d = c.index-lines-index.result in
    let x = lines_text (take k ls) in
    let y = separator k ++ d.bytes in
    let i = c.loop-index.invariant in
    let next = lines-next ls k d c.loop-index-test.true c.index-lines-index.is in
    let before = i.bound in
    let counted = c.in-Ok.ensures.counted in
    record {
      follows = subst (λ (z : List ℕ). Follows a o.sent o.bytes.items z e n.sent n.bytes.items) (sym next)
          (then-follows a b e o.sent l.sent n.sent o.bytes.items l.bytes.items n.bytes.items x y i.follows c.in-Ok.ensures.ok);
      bound = omega arith;
      aside = c.add_line.ensures.aside ∙ i.aside;
      calm = c.in-Ok.ensures.cause.sound ∙ i.calm;
    }
