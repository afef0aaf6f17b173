use Rattle.std.proofs.Common.{◌≤◌, length, ap, ◌∙◌, arith}
use Rattle.front_base.specs.Line.{Line}
use Rattle.webhook_sink.proofs.ListLemmas.{bytes-next, bytes-all, list-length}
use Rattle.webhook_sink.proofs.list.list_length.Goals as goal

pub loop-line-preserved : goal.loop-line-preserved
loop-line-preserved c =
    let i = c.loop-line.invariant in
    let e = ap length (c.as_slice.ensures ∙ ap (λ (l : Line). l.bytes) c.line.view_is) in
    let f = ap length (ap (λ (l : Line). l.bytes) c.line.view_is) in
    let n = bytes-next c.args.lines.now c.loop-line.line-index c.line-item.result c.loop-line-test.true c.line-item.is in
    let w : length c.line.inside.bytes ≤ 4194304 = c.line.invariant in
    let s = i.size in
    let b = i.bound in
    record { size = omega arith; bound = omega arith }

pub returns-clause-length : goal.returns-clause-length
returns-clause-length c =
    let l = list-length c.args.lines.now in
    let s = c.loop-line.invariant.size in
    let a = bytes-all c.args.lines.now c.loop-line.line-index c.loop-line-test.false in
    let m = c.saturating_sub.ensures in
    omega arith
