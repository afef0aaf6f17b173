use Rattle.std.proofs.Common.{◌≡◌, ◌-◌, suc, refl, sym, ◌∙◌, arith}
use Rattle.webhook_sink.proofs.ReplyLemmas.{BlockLaws, passed-none, passed-more, came-decided, came-ninth}
use Rattle.webhook_sink.proofs.reply.Intake.read_reply.Goals as goal

pub passing-init : goal.passing-init
passing-init g c = record { passed = passed-none _ _ c.clear.ensures.items; aside = refl; calm = refl }

pub returns-in-Some-clause-ok : goal.returns-in-Some-clause-ok
returns-in-Some-clause-ok g c =
    let laws : BlockLaws = record { found = c.blocks_stay.ensures.found; none = c.blocks_stay.ensures.none; bounded = c.blocks_are_bounded.ensures } in
    came-decided laws _ _ _ _ _ _ c.in-Ok.answer c.passing.invariant.passed c.in-Ok.ensures.ok c.in-Some.reply (sym c.decided.ensures ∙ c.in-Some.is)

pub returns-then-more-eq0-clause-ok : goal.returns-then-more-eq0-clause-ok
returns-then-more-eq0-clause-ok g c =
    let laws : BlockLaws = record { found = c.blocks_stay.ensures.found; none = c.blocks_stay.ensures.none; bounded = c.blocks_are_bounded.ensures } in
    came-ninth laws _ _ _ _ _ _ c.in-Ok.answer c.passing.invariant.passed c.in-Ok.ensures.ok c.if-more-eq0.true (sym c.decided.ensures ∙ c.in-None.is)

pub passing-preserved : goal.passing-preserved
passing-preserved g c =
    let laws : BlockLaws = record { found = c.blocks_stay.ensures.found; none = c.blocks_stay.ensures.none; bounded = c.blocks_are_bounded.ensures } in
    let some = c.if-more-eq0.false in
    let m : c.passing.more ≡ suc (c.passing.more - 1) = omega (arith, some) in
    record {
      passed = passed-more laws _ _ _ _ _ _ c.in-Ok.answer c.passing.invariant.passed c.in-Ok.ensures.ok (c.passing.more - 1) m (sym c.decided.ensures ∙ c.in-None.is);
      aside = c.next_status.ensures.aside ∙ c.passing.invariant.aside;
      calm = c.in-Ok.ensures.cause.sound ∙ c.passing.invariant.calm;
    }
