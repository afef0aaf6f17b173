use Rattle.std.proofs.Common.{◌≡◌, None, refl, sym, ◌∙◌, ap, arith, length-drop}
use Rattle.json_span.specs.Machine.{place_step}
use Rattle.json_span.proofs.TextLemmas.{whole, accepted, stopped, unended}
use Rattle.json_span.proofs.PassLemmas.{next_leads, rest_first}
use Rattle.std.proofs.lemmas.List.{take_rest}
use Rattle.json_span.proofs.text.check.Goals as goal

pub loop-at-preserved : goal.loop-at-preserved
loop-at-preserved c =
    let passed = rw take_rest at c.in-Some.ensures.passed.2 in
    let size = rw take_rest at c.in-Some.ensures.passed.1 in
    (omega (arith, length-drop c.loop-at.at c.args.text.now), next_leads c.args.text.now c.loop-at.at c.in-Some.passed c.loop-at.place c.pass.new.self c.loop-at.invariant.1 passed)

pub returns-in-None-clause-err : goal.returns-in-None-clause-err
returns-in-None-clause-err c =
    let refused : place_step c.loop-at.place _ ≡ None = c.in-None.ensures.refused refl in
    stopped c.args.text.now c.loop-at.at c.loop-at.place c.loop-at-test.true c.loop-at.invariant.1
    (sym (ap (place_step c.loop-at.place) (rest_first c.args.text.now c.loop-at.at)) ∙ refused)

pub returns-then-ends-clause-ok : goal.returns-then-ends-clause-ok
returns-then-ends-clause-ok c = accepted c.args.text.now c.loop-at.place (whole c.args.text.now c.loop-at.at c.loop-at.place c.loop-at-test.false c.loop-at.invariant.1) (sym c.if-ends.ensures)

pub returns-else-ends-clause-err : goal.returns-else-ends-clause-err
returns-else-ends-clause-err c = unended c.args.text.now c.loop-at.place (whole c.args.text.now c.loop-at.at c.loop-at.place c.loop-at-test.false c.loop-at.invariant.1) (sym c.if-ends.ensures)
