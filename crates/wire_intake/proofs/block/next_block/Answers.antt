use Rattle.std.proofs.Common.{arith, refl, sym, ◌∙◌}
use Rattle.wire_intake.proofs.SoFar.{seen_join, searched_at, answer_at, block_not_read, rose_earlier}
use Rattle.http_head.specs.declared.answer.BlockAnswer.TheVariants as block_answer
use Rattle.wire_intake.proofs.block.next_block.Goals as goal

pub reading-preserved : goal.reading-preserved
reading-preserved g c = record {
  seen = seen_join _ _ _ _ _ _ c.reading.invariant.seen c.in-Ok.ensures.ok.seen;
  searched =
      searched_at _ _ _ (sym c.in-Ok.ensures.ok.seen.all)
      (c.searches_go_on.ensures _ c.in-Ok.ensures.ok.seen.taken _
      (searched_at _ _ _ c.as_slice.ensures.value (c.in-More.ensures.searched refl)));
  aside = c.refill.ensures.aside ∙ c.reading.invariant.aside;
  calm = c.in-Ok.ensures.calm ∙ c.reading.invariant.calm;
  later = omega (arith, c.reading.invariant.later, c.refill.ensures.later);
}

pub returns-in-Err-clause-err : goal.returns-in-Err-clause-err
returns-in-Err-clause-err g c =
    block_not_read _ _ _ _ _ _ _ _ c.in-Err.stop
    (rose_earlier _ _ _ c.reading.invariant.later) c.reading.invariant.seen (answer_at _ _ block_answer.More c.as_slice.ensures.value c.in-More.ensures.answer) c.in-Err.ensures.err
