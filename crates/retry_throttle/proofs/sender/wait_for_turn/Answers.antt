use Rattle.std.proofs.Common.{◌≤◌, arith}
use Rattle.retry_throttle.specs.Clocks.{clock_tells}
use Rattle.retry_throttle.specs.Pauses.{rests_in}
use Rattle.retry_throttle.proofs.ClockLemmas.{passed_later}
use Rattle.retry_throttle.proofs.WaitLemmas.{after_pause}
use Rattle.retry_throttle.proofs.sender.wait_for_turn.Goals as goal

pub wait_for_token-requires : goal.wait_for_token-requires
wait_for_token-requires g c =
    let tells = clock_tells g.K.Clock.given g.K.Clock.last g.K.Clock.rests in
    let p = c.pause.ensures.paused in
    record {
      behind =
          let a = c.requires.behind in
          let b = passed_later (tells c.args.clock.now) (tells c.pause.new.clock) p.0 (rests_in p.0) p.2 in
          omega (arith, a, b);
    }

pub returns-clause-waited : goal.returns-clause-waited
returns-clause-waited g c =
    let tells = clock_tells g.K.Clock.given g.K.Clock.last g.K.Clock.rests in
    after_pause c.args.wait c.args.bucket.now (tells c.args.clock.now) (tells c.pause.new.clock) (tells c.wait_for_token.new.clock) c.wait_for_token.result
    c.wait_for_token.new.bucket c.pause.ensures.paused c.wait_for_token.ensures.asked
