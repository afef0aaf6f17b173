use Rattle.std.proofs.Common.{sym, subst, ap, arith, length, Some, None, IfOk, IfErr}
use Rattle.front_ports.specs.Cause.{Rose}
use Rattle.log_lines.specs.Lines.{HoldsLine, NoLine}
use Rattle.log_lines.proofs.LineLemmas.{feed_at, line_held, line_too_long, all_too_long, not_read, rose_earlier, joined}
use Rattle.log_lines.proofs.next.next_line.Goals as goal

pub returns-in-Some-clause-ok : goal.returns-in-Some-clause-ok
returns-in-Some-clause-ok g c =
    let l = g.S.Source.left in
    let n = c.in-Some.length in
    let seen = c.reading.invariant in
    let f = feed_at _ c.reading.lines c.reading.from (Some n) c.as_slice-held.ensures.value c.in-Some.ensures in
    subst
    (λ r. IfOk r (λ len. HoldsLine (l c.args.input.now) (l c.reading.input) c.args.lines.now c.reading.lines len))
    (sym c.ended_at.ensures)
    (line_held _ _ _ c.reading.lines n seen.seen f.1 f.2 (joined c.reading.lines 0 c.reading.from n seen.searched f.3))

pub returns-in-Some-clause-err : goal.returns-in-Some-clause-err
returns-in-Some-clause-err g c =
    let l = g.S.Source.left in
    let faults = g.S.Source.read_faults in
    let n = c.in-Some.length in
    let seen = c.reading.invariant in
    let f = feed_at _ c.reading.lines c.reading.from (Some n) c.as_slice-held.ensures.value c.in-Some.ensures in
    subst
    (λ r. IfErr r (λ stop. NoLine (l c.args.input.now) (l c.reading.input) c.args.lines.now c.reading.lines (Rose (faults c.args.input.now) (faults c.reading.input)) stop))
    (sym c.ended_at.ensures)
    (line_too_long _ _ _ c.reading.lines _ n seen.seen f.1 (joined c.reading.lines 0 c.reading.from n seen.searched f.3))

pub returns-then-count-gt-MOST_LINE_BYTES-clause-err :
    goal.returns-then-count-gt-MOST_LINE_BYTES-clause-err
returns-then-count-gt-MOST_LINE_BYTES-clause-err g c =
    let seen = c.reading.invariant in
    let f = feed_at _ c.reading.lines c.reading.from None c.as_slice-held.ensures.value c.in_default.ensures in
    all_too_long _ _ _ c.reading.lines seen.seen
    (omega (arith, c.if-count-gt-MOST_LINE_BYTES.true, ap length c.as_slice-held.ensures.value))
    (joined c.reading.lines 0 c.reading.from (length c.reading.lines) seen.searched f)

pub returns-in-Err-clause-err : goal.returns-in-Err-clause-err
returns-in-Err-clause-err g c =
    let seen = c.reading.invariant in
    let f = feed_at _ c.reading.lines c.reading.from None c.as_slice-held.ensures.value c.in_default.ensures in
    not_read _ _ _ _ c.reading.lines _ _ _ c.in-Err.stop (rose_earlier _ _ _ seen.later) seen.seen
    (joined c.reading.lines 0 c.reading.from (length c.reading.lines) seen.searched f) c.in-Err.ensures.err
