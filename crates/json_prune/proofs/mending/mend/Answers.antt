use Rattle.std.proofs.Common.{arith}
use Rattle.json_prune.proofs.MendLemmas.{mended_on}
use Rattle.json_prune.proofs.mending.mend.Goals as goal

pub loop-at-preserved : goal.loop-at-preserved
loop-at-preserved c = record {
  size = omega (arith, c.loop-at.invariant.size, c.mend_escape-end.auto.text);
  within = omega (arith, c.next_escape-at-in-loop-at.ensures.within.1);
  sum = mended_on c.loop-at.text c.mend_escape-end.new.text _ c.loop-at.at c.mend_escape-end.result c.next_escape-at-in-loop-at.result c.loop-at.invariant.sum c.mend_escape-end.ensures.mended c.mend_escape-end.ensures.rest c.next_escape-at-in-loop-at.ensures.mended;
  backslash = c.next_escape-at-in-loop-at.ensures.stops;
}
