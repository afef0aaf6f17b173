use Rattle.std.proofs.Common.{◌+◌, ◌-◌, length, drop, arith, length-drop, length-take}
use Rattle.json_prune.proofs.StepLemmas.{string_sum, opens_sum, closes_sum, comma_sum, other_sum}
use Rattle.json_prune.proofs.skip.value_len.Goals as goal
use Rattle.json_prune.proofs.skip.value_len.Goals.{in-Quote, in-Opens, in-Closes+else-many-eq0, in-Comma+else-many-eq0-2, in-Other}

pub loop-at-preserved : goal.loop-at-preserved
loop-at-preserved c =
    let text = c.args.text.now in
    let at = c.loop-at.at in
    let many = c.loop-at.many in
    let within = c.loop-at-test.true in
    let rest = c.loop-at.invariant.rest in
    let few = c.loop-at.invariant.few in
    elim c.match-mark_of.branch [
      | in-Quote w ↦
          let step = string_sum text at many c.match-mark_of.at c.match-mark_of.many w.string_len-at.result _ within w.in-Quote.ensures w.string_len-at.ensures.size w.at-is w.many-is rest in
          record { within = omega (arith, length-drop (at + 1) text, length-take (length text - (at + 1)) (drop (at + 1) text), w.string_len-at.ensures.within); few = omega (arith, few, w.at-is, w.many-is); rest = step }
      | in-Opens w ↦ record { within = omega (arith, within, w.at-is); few = omega (arith, few, w.at-is, w.many-is); rest = opens_sum text at many c.match-mark_of.at c.match-mark_of.many _ within w.in-Opens.ensures w.at-is w.many-is rest }
      | in-Closes+else-many-eq0 w ↦ record { within = omega (arith, within, w.at-is); few = omega (arith, few, w.at-is, w.many-is); rest = closes_sum text at many c.match-mark_of.at c.match-mark_of.many _ within w.in-Closes.ensures w.if-many-eq0.false w.at-is w.many-is rest }
      | in-Comma+else-many-eq0-2 w ↦ record { within = omega (arith, within, w.at-is); few = omega (arith, few, w.at-is, w.many-is); rest = comma_sum text at many c.match-mark_of.at c.match-mark_of.many _ within w.in-Comma.ensures w.if-many-eq0-2.false w.at-is w.many-is rest }
      | in-Other w ↦ record { within = omega (arith, within, w.at-is); few = omega (arith, few, w.at-is, w.many-is); rest = other_sum text at many c.match-mark_of.at c.match-mark_of.many _ within w.in-Other.ensures w.at-is w.many-is rest }
    ]
