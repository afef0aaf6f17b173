use Rattle.std.proofs.Common.{◌-◌, length, take, drop, refl, arith, length-drop, length-take}
use Rattle.json_prune.proofs.MendLemmas.{run_on}
use Rattle.json_prune.proofs.mending.next_escape.Goals as goal

pub returns-in-Some-clause-mended : goal.returns-in-Some-clause-mended
returns-in-Some-clause-mended c =
    let found = c.in-Some.ensures in
    run_on c.args.text.now c.args.from c.in-Some.further _ c.requires (omega (arith, found.0.high)) refl found.0.before

pub returns-in-None-clause-mended : goal.returns-in-None-clause-mended
returns-in-None-clause-mended c =
    let text = c.args.text.now in
    let from = c.args.from in
    run_on text from (length (take (length text - from) (drop from text))) _ c.requires (omega arith) (omega (arith, c.requires, length-take (length text - from) (drop from text), length-drop from text)) c.in-None.ensures
