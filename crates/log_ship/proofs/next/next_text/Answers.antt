use Rattle.std.proofs.Common.{◌≡◌, ◌∙◌, ap, subst, sym, take}
use Rattle.front_ports.specs.Cause.{Rose}
use Rattle.log_ship.specs.Texts.{IsShippable}
use Rattle.log_ship.proofs.ShipLemmas.{holds, refuses, text_is}
use Rattle.log_ship.proofs.next.next_text.Goals as goal

pub returns-in-Ok-check_line-clause-ok : goal.returns-in-Ok-check_line-clause-ok
returns-in-Ok-check_line-clause-ok g c =
    let left = g.S.Source.left in
    let bytes = c.next_line.new.lines in
    let n = c.in-Ok.length in
    let h = c.in-Ok.ensures.ok in
    let e : take n c.as_slice-2.result.now ≡ h.line = ap (take n) c.as_slice-2.ensures.value ∙ text_is bytes h.line h.after n h.starts h.length_is in
    holds (left c.args.input.now) (left c.next_line.new.input) c.args.buffer.now bytes n c.args.spent c.if-spent.false h (subst IsShippable e c.in-Ok-check_line.ensures.ok)

pub returns-in-Err-NotShippable-clause-err : goal.returns-in-Err-NotShippable-clause-err
returns-in-Err-NotShippable-clause-err g c =
    let left = g.S.Source.left in
    let faults = g.S.Source.read_faults in
    let bytes = c.next_line.new.lines in
    let n = c.in-Ok.length in
    let h = c.in-Ok.ensures.ok in
    let e : take n c.as_slice-2.result.now ≡ h.line = ap (take n) c.as_slice-2.ensures.value ∙ text_is bytes h.line h.after n h.starts h.length_is in
    let no = rw c.in-Err-NotShippable.field-0-is at c.in-Err-NotShippable.ensures.err in
    refuses (left c.args.input.now) (left c.next_line.new.input) c.args.buffer.now bytes (Rose (faults c.args.input.now) (faults c.next_line.new.input)) n c.args.spent
    c.if-spent.false h (λ t. no (subst IsShippable (sym e) t))
