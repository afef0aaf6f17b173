use Rattle.std.proofs.Common.{◌≡◌, ℕ, List, Some, sym, ap, ◌∙◌, subst, true}
use Rattle.std.proofs.lemmas.Bool.Decides.{Decides-eqb}
use Rattle.std.proofs.lemmas.Slice.Eq.{slice_eq-Decides}
use Rattle.std.proofs.lemmas.Result.{err_from_is_err_and}
use Rattle.event_text.specs.Line.{line_text}
use Rattle.stage_event.specs.declared.event.Event.{Event}
use Rattle.audit_reader.specs.Plain.{Fits, IsPlain}
use Rattle.audit_reader.specs.EventLine.{event_at}
use Rattle.audit_reader.proofs.RoundTripLemmas.{fault_reads, told_reads, tells_no, same_event}
use Rattle.audit_reader.proofs.event_line.read_event.Goals as goal

-- the law of lines
abbrev EachIsRead : Type 0
EachIsRead = (e : Event) → Fits e → IsPlain e → event_at (line_text e) ≡ Some e

again : (bytes : List ℕ) → EachIsRead → (e : Event) → Fits e → IsPlain e → line_text e ≡ bytes → event_at bytes ≡ Some e
again bytes law e fits plain same = ap event_at (sym same) ∙ law e fits plain

pub returns-in_err-event-clause-only : goal.returns-in_err-event-clause-only
returns-in_err-event-clause-only c = λ e fits plain same.
    let k = again c.args.text.now c.reads_back.ensures.back e fits plain same in
    let p = err_from_is_err_and c.from_residual.result c.from_residual.ensures.1 in
    rw (p.1, p.2) (fault_reads c.in_err-event.field-0.0 (event_at c.args.text.now) e c.in_err-event.ensures k)

pub returns-in_err-is_plain-clause-only : goal.returns-in_err-is_plain-clause-only
returns-in_err-is_plain-clause-only c = λ e fits plain same.
    let p = err_from_is_err_and c.from_residual-in_err-is_plain.result c.from_residual-in_err-is_plain.ensures.1 in
    rw (p.1, p.2) (told_reads c.in_err-is_plain.field-0.0 (IsPlain c.in_ok-event.event) e c.in_err-is_plain.ensures)

pub returns-then-not-branch-clause-only : goal.returns-then-not-branch-clause-only
returns-then-not-branch-clause-only c = λ e fits plain same.
    let k = again c.args.text.now c.reads_back.ensures.back e fits plain same in
    let s : c.in_ok-event.event ≡ e = same_event (event_at c.args.text.now) c.in_ok-event.event e c.in_ok-event.ensures k in
    tells_no c.in_ok-is_plain.field-0 (IsPlain c.in_ok-event.event) c.in_ok-is_plain.ensures c.if-not-branch.true (subst IsPlain (sym s) plain)

pub returns-then-eq-clause-only : goal.returns-then-eq-clause-only
returns-then-eq-clause-only c = λ e fits plain same.
    same_event (event_at c.args.text.now) c.in_ok-event.event e c.in_ok-event.ensures (again c.args.text.now c.reads_back.ensures.back e fits plain same)

pub returns-else-eq-clause-only : goal.returns-else-eq-clause-only
returns-else-eq-clause-only c = λ e fits plain same.
    let k = again c.args.text.now c.reads_back.ensures.back e fits plain same in
    let s : c.in_ok-event.event ≡ e = same_event (event_at c.args.text.now) c.in_ok-event.event e c.in_ok-event.ensures k in
    let line : c.as_slice-2.result.now ≡ c.args.text.now = c.as_slice-2.ensures ∙ c.in_ok-line.ensures ∙ ap line_text s ∙ same in
    let yes : c.eq.result ≡ true = (slice_eq-Decides Decides-eqb c.as_slice-2.result.now c.args.text.now c.eq.result c.eq.ensures).1 line in
    absurd (cc (yes, c.if-eq.false))
