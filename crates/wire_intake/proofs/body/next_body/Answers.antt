use Rattle.std.proofs.Common.{◌∙◌, refl, sym, arith}
use Rattle.wire_intake.proofs.SoFar.{so_far_start, so_far_fed, so_far_seen, got_body, body_at_end, body_breaks}
use Rattle.wire_intake.proofs.SoFar.{body_not_filled, awaits_not_done, rose_earlier}
use Rattle.wire_intake.proofs.body.next_body.Goals as goal

pub returns-in-Err-clause-err : goal.returns-in-Err-clause-err
returns-in-Err-clause-err g c =
    body_breaks c.refused_bodies.ensures.only c.first_bodies.ensures.refused _ _ _ _ _ _ _ _ _ c.in-Err.stop
    (so_far_start _ _ _ _ _ c.new-decoder.ensures) c.in-Err.ensures.err

pub feeding-init : goal.feeding-init
feeding-init g c = record {
  so_far =
      so_far_fed _ _ _ _ _ _ _ _ _ _ _ (so_far_start _ _ _ _ _ c.new-decoder.ensures)
      (rw c.new-body.ensures.items at c.in-Ok.ensures.ok);
  awaits = c.in-Ok.ensures.awaits;
  aside = refl;
  later = omega arith;
  calm = refl;
}

pub feeding-preserved : goal.feeding-preserved
feeding-preserved g c =
    let seen = so_far_seen _ _ _ _ _ _ _ _ _ _ c.feeding.invariant.so_far c.in-Ok-fill.ensures.ok in
    record {
      so_far = so_far_fed _ _ _ _ _ _ _ _ _ _ _ seen c.in-Ok-feed_into.ensures.ok;
      awaits = c.in-Ok-feed_into.ensures.awaits;
      aside = c.fill.ensures.aside ∙ c.feeding.invariant.aside;
      later = omega (arith, c.feeding.invariant.later, c.fill.ensures.later);
      calm = c.in-Ok-fill.ensures.calm ∙ c.feeding.invariant.calm;
    }

pub returns-in-Err-feed_into-clause-err : goal.returns-in-Err-feed_into-clause-err
returns-in-Err-feed_into-clause-err g c =
    let seen = so_far_seen _ _ _ _ _ _ _ _ _ _ c.feeding.invariant.so_far c.in-Ok-fill.ensures.ok in
    body_breaks c.refused_bodies.ensures.only c.first_bodies.ensures.refused _ _ _ _ _ _ _ _ _ c.in-Err-feed_into.stop
    seen c.in-Err-feed_into.ensures.err

pub returns-clause-ok : goal.returns-clause-ok
returns-clause-ok g c =
    got_body c.decoded_bodies.ensures.done _ _ _ _ _ _ _ _ c.feeding.invariant.so_far
    (sym c.is_done.ensures ∙ c.feeding-test.false)

pub returns-then-ends_at-clause-ok : goal.returns-then-ends_at-clause-ok
returns-then-ends_at-clause-ok g c =
    body_at_end c.decoded_bodies.ensures.ends _ _ _ _ _ _ _ _ _ _ _ c.in-Err-fill.stop c.feeding.invariant.so_far
    (sym c.ends_at.ensures ∙ c.if-ends_at.true) c.in-Err-fill.ensures.err

pub returns-in-Err-fill-clause-err : goal.returns-in-Err-fill-clause-err
returns-in-Err-fill-clause-err g c =
    body_not_filled c.decoded_bodies.ensures.awaits c.decoded_bodies.ensures.whole _ _ _ _ _ _ _ _ _ _ _ _
    c.in-Err-fill.stop (rose_earlier _ _ _ c.feeding.invariant.later) c.feeding.invariant.so_far
    (awaits_not_done c.feeding.decoder c.feeding.invariant.awaits (sym c.is_done.ensures ∙ c.feeding-test.true))
    (sym c.ends_at.ensures ∙ c.if-ends_at.false) c.in-Err-fill.ensures.err
