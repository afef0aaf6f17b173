use Rattle.std.proofs.Common.{◌≡◌, ◌≤◌, ◌+◌, None, refl, sym, ap, ◌∙◌, length, length-drop, arith}
use Rattle.std.proofs.lemmas.List.{take_rest}
use Rattle.json_span.specs.Machine.{place_step}
use Rattle.json_span.proofs.PassLemmas.{reach_on, reach_stops, rest_first}
use Rattle.json_span.proofs.members.value_len.Goals as goal

pub loop-at-preserved : goal.loop-at-preserved
loop-at-preserved c =
    let passed = rw take_rest at c.in-Some.ensures.passed.2 in
    let size = rw take_rest at c.in-Some.ensures.passed.1 in
    let within : c.loop-at.at + c.in-Some.passed ≤ length c.args.text.now = omega (arith, length-drop c.loop-at.at c.args.text.now) in
    (within, reach_on c.args.text.now c.loop-at.at c.in-Some.passed _ c.loop-at.place c.pass.new.self within passed c.loop-at.invariant.1)

pub returns-in-None-clause-reach : goal.returns-in-None-clause-reach
returns-in-None-clause-reach c =
    let refused : place_step c.loop-at.place _ ≡ None = c.in-None.ensures.refused refl in
    sym (reach_stops c.args.text.now c.loop-at.at _ c.loop-at.place c.loop-at-test.true
    (sym (ap (place_step c.loop-at.place) (rest_first c.args.text.now c.loop-at.at)) ∙ refused) c.loop-at.invariant.1)
