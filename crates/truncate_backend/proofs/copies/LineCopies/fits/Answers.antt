use Rattle.std.proofs.Common.{◌≡◌, length, arith, subst, sym, ap, ◌∙◌, true, false}
use Rattle.front_base.specs.Line.{Line}
use Rattle.truncate_backend.specs.Copies.{Copies, copies_fit}
use Rattle.truncate_backend.proofs.CopyLemmas.{no_fit_lines, no_fit_bytes, fit_from, bytes_next, bytes_end}
use Rattle.truncate_backend.proofs.copies.LineCopies.fits.Goals as goal

pub returns-then-self-len : goal.returns-then-self-len
returns-then-self-len c =
    let i = c.self.inside in
    let v = c.self.invariant in
    subst (λ (k : Copies). false ≡ copies_fit k c.args.lines.now) c.self.view_is (sym (no_fit_lines i.entries.items i.bytes.items i.most_lines i.most_bytes c.args.lines.now v.0 (omega arith)))

pub loop-line-init : goal.loop-line-init
loop-line-init c = omega arith

pub returns-then-left-length : goal.returns-then-left-length
returns-then-left-length c =
    let i = c.self.inside in
    let v = c.self.invariant in
    let n = ap length c.as_slice-length.ensures ∙ ap (λ (l : Line). length l.bytes) c.line.view_is in
    let b = bytes_next c.args.lines.now c.loop-line.line-index c.line-item.result (length c.as_slice-length.result.now) c.loop-line-test.true c.line-item.is n in
    subst (λ (k : Copies). false ≡ copies_fit k c.args.lines.now) c.self.view_is (sym (no_fit_bytes i.entries.items i.bytes.items i.most_lines i.most_bytes c.args.lines.now v.0 (omega arith)))

pub loop-line-preserved : goal.loop-line-preserved
loop-line-preserved c =
    let n = ap length c.as_slice-length.ensures ∙ ap (λ (l : Line). length l.bytes) c.line.view_is in
    let b = bytes_next c.args.lines.now c.loop-line.line-index c.line-item.result (length c.as_slice-length.result.now) c.loop-line-test.true c.line-item.is n in
    omega arith

pub returns : goal.returns
returns c =
    let i = c.self.inside in
    let v = c.self.invariant in
    let e = bytes_end c.args.lines.now c.loop-line.line-index c.loop-line-test.false in
    subst (λ (k : Copies). true ≡ copies_fit k c.args.lines.now) c.self.view_is (sym (fit_from i.entries.items i.bytes.items i.most_lines i.most_bytes c.args.lines.now v.0 (omega arith) (omega arith)))
