use Rattle.std.proofs.Common.{◌≡◌, ◌≤◌, Bool, true, length, take, Ok, sym, subst, ◌∙◌, arith}
use Rattle.std.proofs.lemmas.Bool.Decides.{Decides-eqb}
use Rattle.std.proofs.lemmas.Slice.Eq.{slice_eq-Decides}
use Rattle.group_resources.specs.Lines.{IsLine}
use Rattle.group_resources.specs.Reading.{Tells}
use Rattle.group_resources.proofs.ReadingLemmas.{stands, starts_fits, starts_front}
use Rattle.group_resources.proofs.reading.size_at.Goals.{else-size-bytes-via-then-size-bytes+else-eq, else-size-bytes-via-else-size-bytes}
use Rattle.group_resources.proofs.reading.size_at.Goals as goal

pub returns-then-eq-clause-ok : goal.returns-then-eq-clause-ok
returns-then-eq-clause-ok c =
    let size = c.len-size.result in
    let same = slice_eq-Decides Decides-eqb (take size c.args.bytes.now) c.as_slice.result.now c.eq.result c.eq.ensures in
    stands c.args.bytes.now c.as_slice.result.now c.args.line.now size
    (subst (λ (b : Bool). Tells (IsLine c.args.line.now) (Ok b)) c.if-not-branch.false c.in_ok-is_line.ensures)
    (c.as_slice.ensures.value ∙ c.in_ok-text.ensures) (c.len-size.ensures ∙ sym c.as_slice.ensures.len) c.if-size-bytes.true (same.0 c.if-eq.true)

pub returns-clause-err : goal.returns-clause-err
returns-clause-err c = λ after is starts.
    elim c.else-size-bytes.branch [
      | else-size-bytes-via-then-size-bytes+else-eq w ↦
          let size = c.len-size.result in
          let same = slice_eq-Decides Decides-eqb (take size c.args.bytes.now) w.as_slice.result.now w.eq.result w.eq.ensures in
          let front = starts_front c.args.bytes.now w.as_slice.result.now after c.args.line.now size (w.as_slice.ensures.value ∙ c.in_ok-text.ensures)
          (c.len-size.ensures ∙ sym w.as_slice.ensures.len) starts in
          let yes : w.eq.result ≡ true = same.1 front in
          absurd (cc (yes, w.if-eq.false))
      | else-size-bytes-via-else-size-bytes w ↦
          let fits : length c.in_ok-text.text.items ≤ length c.args.bytes.now =
          starts_fits c.args.bytes.now c.in_ok-text.text.items after c.args.line.now c.in_ok-text.ensures starts in
          absurd (omega (arith, fits, w.if-size-bytes.false, c.len-size.ensures))
    ]
