use Rattle.std.proofs.Common.{arith, ◌∙◌}
use Rattle.std.proofs.lemmas.List.{take_rest}
use Rattle.front_ports.proofs.WrittenLemmas.{appends_more}
use Rattle.front_ports.proofs.stream.write_counted.Goals as goal

pub loop-at-preserved : goal.loop-at-preserved
loop-at-preserved g c = record {
  within = omega (arith, c.in-Ok.ensures.bound);
  told = appends_more _ _ _ c.loop-at.at c.in-Ok.count c.args.text.now c.loop-at.invariant.told (rw (take_rest c.args.text.now c.loop-at.at) at c.in-Ok.ensures.bytes);
  sound = c.in-Ok.ensures.cause.sound ∙ c.loop-at.invariant.sound;
  aside = c.write.ensures.aside ∙ c.loop-at.invariant.aside;
}
