use Rattle.std.proofs.Common.{◌∙◌, refl, subst, sym, arith}
use Rattle.check_command.specs.Reviews.{SoFar}
use Rattle.check_command.proofs.CheckLemmas.{all_of_them, below, rose_earlier}
use Rattle.check_command.proofs.ReviewLemmas.{keeps_end, keeps_later, reviews_end, reviews_none, so_far_more, so_far_start}
use Rattle.check_command.proofs.review.review_log.Goals as goal

pub returns-in_default-clause-reviews : goal.returns-in_default-clause-reviews
returns-in_default-clause-reviews g c = reviews_none c.args.policy (g.S.Source.left c.args.input.now) c.none-bad.result c.none-bad.ensures.lists

pub reviewing-init : goal.reviewing-init
reviewing-init g c = record {
  so_far =
      subst (λ held. SoFar c.args.policy (g.S.Source.left c.args.input.now) (g.S.Source.left c.args.input.now) held 0 c.start-checker.result c.none-bad.result) (sym c.in-Ok.ensures)
      (so_far_start c.args.policy (g.S.Source.left c.args.input.now) _ _ c.start-checker.ensures c.none-bad.ensures.lists c.none-bad.ensures.count);
  later = omega arith;
  calm = refl;
}

pub reviewing-smaller : goal.reviewing-smaller
reviewing-smaller g c =
    let few = c.in-None.ensures.fewer.0 in
    omega (arith, few)

pub reviewing-preserved : goal.reviewing-preserved
reviewing-preserved g c =
    let so = c.reviewing.invariant.so_far in
    let few = c.in-None.ensures.fewer in
    record {
      so_far =
          so_far_more c.args.policy _ _ _ _ _ c.reviewing.lines _ _ _ _ _ so few.0 few.1
          (c.in-None.ensures.reviews c.args.policy so.passed.conforming so.bad so.accepted so.lists);
      later = omega (arith, c.reviewing.invariant.later, c.review_next.ensures.later);
      calm = c.in-None.ensures.calm ∙ c.reviewing.invariant.calm;
    }

pub returns-in-Some-clause-reviews : goal.returns-in-Some-clause-reviews
returns-in-Some-clause-reviews g c =
    let so = c.reviewing.invariant.so_far in
    reviews_end c.args.policy _ _ _ _ _ c.reviewing.lines _ c.review_next.new.checker _ c.review_next.new.bad _ _ _ so c.ended.result c.in-Some.end (rose_earlier _ _ _ c.reviewing.invariant.later)
    (all_of_them c.reviewing.lines) (below c.reviewing.lines so.passed.few)
    (c.in-Some.ensures.reviews c.args.policy so.passed.conforming so.bad so.accepted so.lists)
    c.ended.ensures.ends c.ended.ensures.lines

pub returns-in-Some-clause-told : goal.returns-in-Some-clause-told
returns-in-Some-clause-told g c =
    keeps_end _ _ c.reviewing.lines c.review_next.new.bad c.in-Some.end c.ended.result c.ended.ensures.ends
    (keeps_later _ _ _ c.in-Some.end c.reviewing.invariant.calm c.in-Some.ensures.told)
