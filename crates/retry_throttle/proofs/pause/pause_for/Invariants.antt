use Rattle.std.proofs.Common.{◌-◌}
use Rattle.retry_throttle.specs.Clocks.{clock_tells}
use Rattle.retry_throttle.specs.Sendings.{PausesSoFar}
use Rattle.retry_throttle.specs.declared.pause.TheConstants.{MOST_RESTS}
use Rattle.retry_throttle.proofs.pause.pause_for.Given as goal

abbrev pub invariant-resting : goal.invariant-resting
invariant-resting g l = record {
  so_far : PausesSoFar l.fn.wait l.first (clock_tells g.K.Clock.given g.K.Clock.last g.K.Clock.rests l.fn.clock) l.rests
      (clock_tells g.K.Clock.given g.K.Clock.last g.K.Clock.rests l.clock);
}

abbrev pub decreases-resting : goal.decreases-resting
decreases-resting g l = MOST_RESTS - l.rests
