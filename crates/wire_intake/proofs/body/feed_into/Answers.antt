use Rattle.std.proofs.Common.{refl}
use Rattle.wire_intake.proofs.SoFar.{fed_into}
use Rattle.wire_intake.proofs.body.feed_into.Goals as goal

pub returns-clause-ok : goal.returns-clause-ok
returns-clause-ok c =
    fed_into c.args.decoder.now c.feed.new.self c.args.intake.now c.skip.new.self c.args.body.now.items
    c.extend_from_slice.new.self.items _ c.in-Ok.fed.taken c.in-Ok.fed.from c.in-Ok.fed.to
    (rw c.as_slice.ensures.value at c.in-Ok.ensures.took) c.skip.ensures refl
    (rw c.as_slice-2.ensures.value at c.in-Ok-extend_from_slice.ensures.items)
