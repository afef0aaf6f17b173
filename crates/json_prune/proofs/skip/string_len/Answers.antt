use Rattle.std.proofs.Common.{◌+◌, ◌-◌, ◌<◌, length, take, drop, refl, arith, length-drop, length-take}
use Rattle.json_prune.proofs.StepLemmas.{escape_on, slash_there, string_closes, string_none, string_passed}
use Rattle.json_prune.proofs.skip.string_len.Goals as goal

pub returns-then-text-mark-eq34-clause-size : goal.returns-then-text-mark-eq34-clause-size
returns-then-text-mark-eq34-clause-size c =
    let text = c.args.text.now in
    let at = c.loop-further.at in
    let found = c.in-Some.ensures in
    let sum = string_passed text at c.in-Some.further _ _ c.loop-further.invariant.within (omega (arith, found.0.high)) refl found.0.before c.loop-further.invariant.sum in
    let within : at + c.in-Some.further < length text = omega (arith, c.loop-further.invariant.within, found.0.high, length-take (length text - at) (drop at text), length-drop at text) in
    let one = string_closes text _ within c.if-text-mark-eq34.true in omega (arith, sum, one)

pub loop-further-preserved : goal.loop-further-preserved
loop-further-preserved c =
    let text = c.args.text.now in
    let at = c.loop-further.at in
    let found = c.in-Some.ensures in
    let sum = string_passed text at c.in-Some.further _ _ c.loop-further.invariant.within (omega (arith, found.0.high)) refl found.0.before c.loop-further.invariant.sum in
    let within : at + c.in-Some.further < length text = omega (arith, c.loop-further.invariant.within, found.0.high, length-take (length text - at) (drop at text), length-drop at text) in
    let slash = slash_there text at c.in-Some.further _ refl found.1 c.if-text-mark-eq34.false in
    let next = escape_on text _ c.min-at.result _ within slash c.min-at.ensures sum in
    record { within = next.0; sum = next.1 }

pub returns-clause-size : goal.returns-clause-size
returns-clause-size c =
    let text = c.args.text.now in
    let at = c.loop-further.at in
    let within = c.loop-further.invariant.within in
    let sum = string_passed text at (length (take (length text - at) (drop at text))) (length text) _ within (omega arith) (omega (arith, within, length-take (length text - at) (drop at text), length-drop at text)) c.in_default.ensures c.loop-further.invariant.sum in
    let none = string_none text (length text) (omega arith) in omega (arith, sum, none)
