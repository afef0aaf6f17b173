use Rattle.std.proofs.Common.{◌≡◌, ◌++◌, ◌∷◌, [], ◌∙◌, Err, ap, sym, subst, take}
use Rattle.audit_check.specs.Conforms.{Conforms, HasAccepted, Judges}
use Rattle.front_ports.specs.Cause.{Rose}
use Rattle.check_command.specs.Checks.{ChecksNext, KeepsCountNext, MayStand, Stays}
use Rattle.check_command.proofs.CheckLemmas.{after_is, fits, keeps_refused, refuses, short_line, stands_refused, stays_refused, text_is}
use Rattle.log_lines.specs.Lines.{StartsWithLine}
use Rattle.check_command.proofs.next.check_next.Goals as goal

pub returns-in-Ok-line-clause-checks : goal.returns-in-Ok-line-clause-checks
returns-in-Ok-line-clause-checks g c policy before h =
    let bytes = c.next_line.new.lines in
    let n = c.in-Ok.length in
    let l = c.in-Ok.ensures.ok in
    let e : take n c.as_slice-2.result.now ≡ l.line = ap (take n) c.as_slice-2.ensures.value ∙ text_is bytes l.line l.after n l.starts l.length_is in
    let after : c.skip.new.self ≡ l.after = c.skip.ensures ∙ after_is bytes l.line l.after n l.starts l.length_is in
    record {
      bytes = bytes;
      seen = l.seen;
      line = l.line;
      starts = subst (λ a. StartsWithLine bytes l.line a) (sym after) l.starts;
      short = short_line l.line n l.length_is l.short;
      conforms = subst (λ t. Conforms policy before t) e (c.in-Ok-line.ensures.judged policy before h);
      accepted = subst (λ t. HasAccepted policy (before ++ t ∷ []) c.line.new.self) e (c.in-Ok-line.ensures.accepted policy before h);
      few = c.if-spent.false;
    }

pub returns-in-Err-line-clause-checks : goal.returns-in-Err-line-clause-checks
returns-in-Err-line-clause-checks g c policy before h =
    let left = g.S.Source.left in
    let faults = g.S.Source.read_faults in
    let bytes = c.next_line.new.lines in
    let n = c.in-Ok.length in
    let l = c.in-Ok.ensures.ok in
    let e : take n c.as_slice-2.result.now ≡ l.line = ap (take n) c.as_slice-2.ensures.value ∙ text_is bytes l.line l.after n l.starts l.length_is in
    subst
    (λ r. ChecksNext policy before (left c.args.input.now) (left c.next_line.new.input) c.args.buffer.now bytes c.args.spent (Rose (faults c.args.input.now) (faults c.next_line.new.input)) c.line.new.self r)
    (sym c.refused.ensures)
    (refuses policy before _ _ _ _ _ c.line.new.self n c.args.spent c.in-Err-line.why c.if-spent.false l
    (subst (λ t. Judges policy before t (Err c.in-Err-line.why)) e (c.in-Err-line.ensures.judged policy before h)))

pub returns-in-Err-line-clause-told : goal.returns-in-Err-line-clause-told
returns-in-Err-line-clause-told g c =
    let faults = g.S.Source.read_faults in
    subst (λ r. KeepsCountNext (faults c.args.input.now) (faults c.next_line.new.input) r) (sym c.refused.ensures)
    (keeps_refused _ _ c.in-Ok.length c.in-Err-line.why c.in-Ok.ensures.calm)

pub returns-in-Err-line-clause-stands : goal.returns-in-Err-line-clause-stands
returns-in-Err-line-clause-stands g c =
    let l = c.in-Ok.ensures.ok in
    subst (λ r. MayStand c.next_line.new.lines c.args.spent r) (sym c.refused.ensures)
    (stands_refused c.next_line.new.lines c.args.spent c.in-Ok.length c.in-Err-line.why l.short
    (fits c.next_line.new.lines l.line l.after c.in-Ok.length l.starts l.length_is) c.if-spent.false)

pub returns-in-Err-line-clause-stays : goal.returns-in-Err-line-clause-stays
returns-in-Err-line-clause-stays g c =
    subst (λ r. Stays c.args.checker.now c.line.new.self r) (sym c.refused.ensures)
    (stays_refused c.args.checker.now c.line.new.self c.in-Ok.length c.in-Err-line.why c.in-Err-line.ensures.refused)
