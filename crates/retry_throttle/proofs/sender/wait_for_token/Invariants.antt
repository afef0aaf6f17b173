use Rattle.std.proofs.Common.{◌≤◌, ◌-◌}
use Rattle.retry_throttle.specs.Clocks.{clock_tells}
use Rattle.retry_throttle.specs.Sendings.{Waits}
use Rattle.retry_throttle.specs.declared.pause.TheConstants.{MOST_RESTS}
use Rattle.retry_throttle.proofs.sender.wait_for_token.Given as goal

abbrev pub invariant-asking : goal.invariant-asking
invariant-asking g l = record {
  waits : Waits l.fn.bucket (clock_tells g.K.Clock.given g.K.Clock.last g.K.Clock.rests l.fn.clock) l.refused l.bucket
      (clock_tells g.K.Clock.given g.K.Clock.last g.K.Clock.rests l.clock);
  behind : l.bucket.last ≤ g.K.Clock.last l.clock;
}

abbrev pub decreases-asking : goal.decreases-asking
decreases-asking g l = MOST_RESTS - l.refused
