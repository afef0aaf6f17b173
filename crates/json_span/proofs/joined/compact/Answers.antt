use Rattle.std.proofs.Common.{◌≡◌, ◌+◌, None, refl, sym, ◌∙◌, ap, get_or, take, length-drop, arith}
use Rattle.std.proofs.lemmas.List.{take_rest}
use Rattle.json_span.specs.Machine.{place_step, place_ends, keeps, start}
use Rattle.json_span.proofs.RunLemmas.{output}
use Rattle.json_span.proofs.TextLemmas.{whole, whole_output, compacted, stopped, unended}
use Rattle.json_span.proofs.PassLemmas.{next_leads, next_output, rest_first, kept_on, left_out, last_range}
use Rattle.json_span.proofs.joined.compact.Goals as goal
use Rattle.json_span.proofs.joined.compact.Goals.{then-not-keeps+in_ok-extend_from_slice, else-not-keeps}

pub returns-in_default-clause-err : goal.returns-in_default-clause-err
returns-in_default-clause-err c =
    let refused : place_step c.loop-at.place _ ≡ None = c.in_default.ensures.refused refl in
    stopped c.args.text.now c.loop-at.at c.loop-at.place c.loop-at-test.true c.loop-at.invariant.leads
    (sym (ap (place_step c.loop-at.place) (rest_first c.args.text.now c.loop-at.at)) ∙ refused)

pub loop-at-preserved : goal.loop-at-preserved
loop-at-preserved c =
    let text = c.args.text.now in
    let at = c.loop-at.at in
    let n = c.in-Some.passed in
    let place = c.pass.new.self in
    let from = c.loop-at.from in
    let joined = c.loop-at.joined.items in
    let byte = get_or text at 0 in
    let passed = rw take_rest at c.in-Some.ensures.passed.2 in
    let size = rw take_rest at c.in-Some.ensures.passed.1 in
    let more = next_output text at n c.loop-at.place place c.loop-at-test.true c.in-Some.ensures.passed.0 c.loop-at.invariant.leads passed in
    let done = output place_step place_ends keeps start (take at text) in
    let all = output place_step place_ends keeps start (take (at + n) text) in
    record {
      in_order = elim c.if-not-keeps.branch [ then-not-keeps+in_ok-extend_from_slice w ↦ omega arith | else-not-keeps w ↦ omega arith ];
      within = omega (arith, length-drop at text);
      leads = next_leads text at n c.loop-at.place place c.loop-at.invariant.leads passed;
      kept = elim c.if-not-keeps.branch [
        | then-not-keeps+in_ok-extend_from_slice w ↦ left_out text joined c.if-not-keeps.joined.items done all from c.if-not-keeps.from at n (keeps place byte) (sym w.if-not-keeps.ensures) w.from-is (ap (λ v. v.items) w.joined-is ∙ w.in_ok-extend_from_slice.ensures.items) c.loop-at.invariant.kept more
        | else-not-keeps w ↦ kept_on text joined c.if-not-keeps.joined.items done all from c.if-not-keeps.from at n (keeps place byte) c.loop-at.invariant.in_order (sym w.if-not-keeps.ensures) w.from-is (ap (λ v. v.items) w.joined-is) c.loop-at.invariant.kept more
      ];
    }

pub returns-then-ends-clause-ok : goal.returns-then-ends-clause-ok
returns-then-ends-clause-ok c =
    compacted c.args.text.now _ c.loop-at.place (whole c.args.text.now c.loop-at.at c.loop-at.place c.loop-at-test.false c.loop-at.invariant.leads) (sym c.if-ends.ensures)
    (last_range c.args.text.now c.loop-at.joined.items _ _ c.loop-at.from c.loop-at.at c.loop-at.invariant.within c.loop-at-test.false c.in_ok-extend_from_slice-2.ensures.items c.loop-at.invariant.kept ∙ whole_output c.args.text.now c.loop-at.at c.loop-at-test.false)

pub returns-else-ends-clause-err : goal.returns-else-ends-clause-err
returns-else-ends-clause-err c = unended c.args.text.now c.loop-at.place (whole c.args.text.now c.loop-at.at c.loop-at.place c.loop-at-test.false c.loop-at.invariant.leads) (sym c.if-ends.ensures)
