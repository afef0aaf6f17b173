use Rattle.std.proofs.Common.{◌≡◌, ◌-◌, suc, refl, sym, ◌∙◌, arith}
use Rattle.forward_link.proofs.SaysLemmas.{BlockLaws}
use Rattle.forward_link.proofs.ReadingLemmas.{passed_none, passed_more, came_refused, came_ninth, got_final, no_final, rose_same}
use Rattle.forward_link.proofs.reply.final_head.Goals as goal

pub passing-init : goal.passing-init
passing-init g c = record { passed = passed_none _ _ _ c.requires; aside = refl; calm = refl }

pub returns-in-Err-clause-err : goal.returns-in-Err-clause-err
returns-in-Err-clause-err g c =
    let laws : BlockLaws = record { found = c.blocks_stay.ensures.found; none = c.blocks_stay.ensures.none; bounded = c.blocks_are_bounded.ensures } in
    no_final laws _ _ _ _ _ _ _ _ _ c.in-Err.stop (rose_same _ _ _ c.passing.invariant.calm) c.passing.invariant.passed c.in-Err.ensures.err

pub returns-in-Final-clause-ok : goal.returns-in-Final-clause-ok
returns-in-Final-clause-ok g c =
    let laws : BlockLaws = record { found = c.blocks_stay.ensures.found; none = c.blocks_stay.ensures.none; bounded = c.blocks_are_bounded.ensures } in
    got_final laws _ _ _ _ _ _ _ c.in-Ok.head c.passing.invariant.passed c.in-Ok.ensures.ok c.in-Final.frame (sym c.kind_of.ensures ∙ c.in-Final.is)

pub returns-in-Refused-clause-err : goal.returns-in-Refused-clause-err
returns-in-Refused-clause-err g c =
    let laws : BlockLaws = record { found = c.blocks_stay.ensures.found; none = c.blocks_stay.ensures.none; bounded = c.blocks_are_bounded.ensures } in
    came_refused laws _ _ _ _ _ _ _ c.in-Ok.head c.passing.invariant.passed c.in-Ok.ensures.ok (sym c.kind_of.ensures ∙ c.in-Refused.is)

pub returns-then-more-eq0-clause-err : goal.returns-then-more-eq0-clause-err
returns-then-more-eq0-clause-err g c =
    let laws : BlockLaws = record { found = c.blocks_stay.ensures.found; none = c.blocks_stay.ensures.none; bounded = c.blocks_are_bounded.ensures } in
    came_ninth laws _ _ _ _ _ _ _ c.in-Ok.head c.passing.invariant.passed c.in-Ok.ensures.ok c.if-more-eq0.true (sym c.kind_of.ensures ∙ c.in-Interim.is)

pub passing-preserved : goal.passing-preserved
passing-preserved g c =
    let laws : BlockLaws = record { found = c.blocks_stay.ensures.found; none = c.blocks_stay.ensures.none; bounded = c.blocks_are_bounded.ensures } in
    let some = c.if-more-eq0.false in
    let m : c.passing.more ≡ suc (c.passing.more - 1) = omega (arith, some) in
    record {
      passed = passed_more laws _ _ _ _ _ _ _ c.in-Ok.head c.passing.invariant.passed c.in-Ok.ensures.ok (c.passing.more - 1) m (sym c.kind_of.ensures ∙ c.in-Interim.is);
      aside = c.next_head.ensures.aside ∙ c.passing.invariant.aside;
      calm = c.in-Ok.ensures.calm ∙ c.passing.invariant.calm;
    }
