use Rattle.std.proofs.Common.{◌≡◌, ◌<◌, ◌≤◌, ◌+◌, ◌-◌, inl, inr, arith}
use Rattle.retry_throttle.specs.Clocks.{ClockTells, clock_tells}
use Rattle.retry_throttle.proofs.ClockLemmas.{passed_now, passed_rest}
use Rattle.retry_throttle.proofs.PauseLemmas.{pause_ends, pause_more}
use Rattle.retry_throttle.proofs.pause.pause_for.Goals as goal

pub returns-then-wait-passed : goal.returns-then-wait-passed
returns-then-wait-passed g c =
    let tells = clock_tells g.K.Clock.given g.K.Clock.last g.K.Clock.rests in
    let n = c.now.ensures in
    let r = c.rest.ensures in
    record {
      paused = pause_ends c.args.wait c.now-first.result (tells c.args.clock.now) (tells c.resting.clock) (tells c.rest.new.self) (tells c.now.new.self)
          c.resting.rests c.now.result c.resting.invariant.so_far (passed_rest (tells c.resting.clock) (tells c.rest.new.self) r.given r.last r.rests)
          (passed_now (tells c.rest.new.self) (tells c.now.new.self) c.now.result n.given n.later n.last n.rests) c.requires.some
          (inl (omega (arith, c.if-wait-passed.true, c.saturating_sub-passed.ensures, c.micros.ensures.value, c.micros-in-resting.ensures.value, c.requires.some)));
    }

pub returns-then-rests-eq-MOST_RESTS : goal.returns-then-rests-eq-MOST_RESTS
returns-then-rests-eq-MOST_RESTS g c =
    let tells = clock_tells g.K.Clock.given g.K.Clock.last g.K.Clock.rests in
    let n = c.now.ensures in
    let r = c.rest.ensures in
    record {
      paused = pause_ends c.args.wait c.now-first.result (tells c.args.clock.now) (tells c.resting.clock) (tells c.rest.new.self) (tells c.now.new.self)
          c.resting.rests c.now.result c.resting.invariant.so_far (passed_rest (tells c.resting.clock) (tells c.rest.new.self) r.given r.last r.rests)
          (passed_now (tells c.rest.new.self) (tells c.now.new.self) c.now.result n.given n.later n.last n.rests) c.requires.some
          (inr (omega (arith, c.if-rests-eq-MOST_RESTS.true)));
    }

pub resting-preserved : goal.resting-preserved
resting-preserved g c =
    let tells = clock_tells g.K.Clock.given g.K.Clock.last g.K.Clock.rests in
    let n = c.now.ensures in
    let r = c.rest.ensures in
    record {
      so_far = pause_more c.args.wait c.now-first.result (tells c.args.clock.now) (tells c.resting.clock) (tells c.rest.new.self) (tells c.now.new.self)
          c.resting.rests c.now.result c.resting.invariant.so_far (passed_rest (tells c.resting.clock) (tells c.rest.new.self) r.given r.last r.rests)
          (passed_now (tells c.rest.new.self) (tells c.now.new.self) c.now.result n.given n.later n.last n.rests)
          (omega (arith, c.if-wait-passed.false, c.saturating_sub-passed.ensures, c.micros.ensures.value, c.micros-in-resting.ensures.value, c.requires.some))
          (let few = c.resting.invariant.so_far.few in omega (arith, few, c.if-rests-eq-MOST_RESTS.false));
    }
