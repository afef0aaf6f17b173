use Rattle.std.proofs.Common.{List, ℕ, [], ◌+◌, length, arith, refl, ap, sym, subst, ◌∙◌, take, drop}
use Rattle.std.proofs.lemmas.List.{take_rest}
use Rattle.webhook_sink.specs.Buffered.{Follows}
use Rattle.webhook_sink.proofs.BufferLemmas.{keeps, part-follows, rest-follows, rest-stops}
use Rattle.webhook_sink.proofs.buffer.SendBuffer.add.Goals as goal

pub loop-at-preserved : goal.loop-at-preserved
loop-at-preserved g c =
    let o = c.args.self.now in
    let l = c.loop-at.self in
    let n = c.fill.new.self in
    let i = c.loop-at.invariant in
    let a = g.W.ByteSink.written c.args.out.now in
    let b = g.W.ByteSink.written c.loop-at.out in
    let d = g.W.ByteSink.written c.fill.new.out in
    let full = c.in-Ok.ensures.full in
    let counted = c.in-Ok.ensures.counted in
    let before = i.counted in
    let test = c.loop-at-test.true in
    let len = c.len.ensures in
    let size = l.within in
    let none = ap length c.in-Ok.ensures.empty in
    let next = rw (take_rest c.args.piece.now c.loop-at.at) at c.in-Ok.ensures.ok in
    record {
      within = omega arith;
      follows = subst (λ (z : List ℕ). Follows a o.sent o.bytes.items (take (c.loop-at.at + c.in-Ok.count) c.args.piece.now) d n.sent z) (sym c.in-Ok.ensures.empty)
          (part-follows a b d o.sent l.sent n.sent c.loop-at.at c.in-Ok.count o.bytes.items l.bytes.items [] c.args.piece.now i.follows next);
      counted = omega arith;
      aside = c.fill.ensures.aside ∙ i.aside;
      calm = c.in-Ok.ensures.cause.sound ∙ i.calm;
    }

pub returns-in-Err-clause-err : goal.returns-in-Err-clause-err
returns-in-Err-clause-err g c =
    let o = c.args.self.now in
    let l = c.loop-at.self in
    let n = c.fill.new.self in
    let i = c.loop-at.invariant in
    let next = rw (take_rest c.args.piece.now c.loop-at.at) at c.in-Err.ensures.err in
    rest-stops (g.W.ByteSink.written c.args.out.now) (g.W.ByteSink.written c.loop-at.out) (g.W.ByteSink.written c.fill.new.out) o.sent l.sent n.sent c.loop-at.at
    o.bytes.items l.bytes.items c.args.piece.now i.follows next

pub returns-clause-ok : goal.returns-clause-ok
returns-clause-ok g c =
    let o = c.args.self.now in
    let l = c.loop-at.self in
    let n = c.keep.new.self in
    let i = c.loop-at.invariant in
    let a = g.W.ByteSink.written c.loop-at.out in
    let b = a in
    let r = c.keep.ensures.rest in
    let kept = rw (take_rest c.args.piece.now c.loop-at.at) at c.keep.ensures.bytes in
    rest-follows (g.W.ByteSink.written c.args.out.now) a b o.sent l.sent n.sent c.loop-at.at o.bytes.items l.bytes.items n.bytes.items c.args.piece.now i.follows
    (keeps a b l.bytes.items n.bytes.items (drop c.loop-at.at c.args.piece.now) l.sent n.sent refl r kept)
