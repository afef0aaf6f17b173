use Rattle.std.proofs.Common.{◌≡◌, ◌+◌, ◌≤◌, false, true, sym, ◌∙◌, ap, subst, arith}
use Rattle.retry_throttle.specs.Buckets.{Level}
use Rattle.retry_throttle.specs.Clocks.{clock_tells}
use Rattle.retry_throttle.specs.Sendings.{Asked, Waits}
use Rattle.retry_throttle.proofs.ClockLemmas.{passed_now, passed_rest}
use Rattle.retry_throttle.proofs.WaitLemmas.{waits_granted, waits_more, waits_out}
use Rattle.retry_throttle.proofs.sender.wait_for_token.Goals as goal

pub returns-then-take-clause-asked : goal.returns-then-take-clause-asked
returns-then-take-clause-asked g c =
    let tells = clock_tells g.K.Clock.given g.K.Clock.last g.K.Clock.rests in
    let n = c.now.ensures in
    let h : c.asking.bucket.last ≤ c.now.result = let a = c.asking.invariant.behind in let b = n.later in omega (arith, a, b) in
    subst
    (λ (z : Level). Asked c.args.bucket.now (tells c.args.clock.now) true z (tells c.now.new.self))
    (sym c.take.ensures.asked)
    (waits_granted c.args.bucket.now (tells c.args.clock.now) c.asking.refused c.asking.bucket (tells c.asking.clock) (tells c.now.new.self) c.now.result
    c.asking.invariant.waits h (passed_now (tells c.asking.clock) (tells c.now.new.self) c.now.result n.given n.later n.last n.rests)
    (sym c.take.ensures.gives ∙ c.if-take.true))

pub returns-then-refused-eq-MOST_RESTS-clause-asked : goal.returns-then-refused-eq-MOST_RESTS-clause-asked
returns-then-refused-eq-MOST_RESTS-clause-asked g c =
    let tells = clock_tells g.K.Clock.given g.K.Clock.last g.K.Clock.rests in
    let n = c.now.ensures in
    let r = c.rest.ensures in
    let h : c.asking.bucket.last ≤ c.now.result = let a = c.asking.invariant.behind in let b = n.later in omega (arith, a, b) in
    subst
    (λ (z : Level). Asked c.args.bucket.now (tells c.args.clock.now) false z (tells c.rest.new.self))
    (sym c.take.ensures.asked)
    (waits_out c.args.bucket.now (tells c.args.clock.now) c.asking.refused c.asking.bucket (tells c.asking.clock) (tells c.now.new.self) c.now.result
    c.asking.invariant.waits h (passed_now (tells c.asking.clock) (tells c.now.new.self) c.now.result n.given n.later n.last n.rests)
    (tells c.rest.new.self) (passed_rest (tells c.now.new.self) (tells c.rest.new.self) r.given r.last r.rests)
    (sym c.take.ensures.gives ∙ c.if-take.false) (omega (arith, c.if-refused-eq-MOST_RESTS.true)))

pub asking-preserved : goal.asking-preserved
asking-preserved g c =
    let tells = clock_tells g.K.Clock.given g.K.Clock.last g.K.Clock.rests in
    let n = c.now.ensures in
    let r = c.rest.ensures in
    let h : c.asking.bucket.last ≤ c.now.result = let a = c.asking.invariant.behind in let b = n.later in omega (arith, a, b) in
    record {
      waits = subst
          (λ (z : Level). Waits c.args.bucket.now (tells c.args.clock.now) (c.asking.refused + 1) z (tells c.rest.new.self))
          (sym c.take.ensures.asked)
          (waits_more c.args.bucket.now (tells c.args.clock.now) c.asking.refused c.asking.bucket (tells c.asking.clock) (tells c.now.new.self) c.now.result
          c.asking.invariant.waits h (passed_now (tells c.asking.clock) (tells c.now.new.self) c.now.result n.given n.later n.last n.rests)
          (tells c.rest.new.self) (passed_rest (tells c.now.new.self) (tells c.rest.new.self) r.given r.last r.rests)
          (sym c.take.ensures.gives ∙ c.if-take.false)
          (let few = c.asking.invariant.waits.few in omega (arith, few, c.if-refused-eq-MOST_RESTS.false)));
      behind =
          let e = ap (λ (z : Level). z.last) c.take.ensures.asked in
          let a = n.last in
          let b = r.last in
          omega (arith, e, a, b);
    }
