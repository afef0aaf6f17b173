use Rattle.std.proofs.Common.{◌≡◌, ◌≤◌, ◌<◌, ◌-◌, ◌^◌, ℕ, List, length}
use Rattle.probe_rounds.specs.Standing.{PaceSoFar, RoundsSoFar, out_tells, pace_tells, stand}
use Rattle.service_calls.specs.Calls.{dial_state}
use Rattle.probe_rounds.proofs.rounds.all_rounds.Given as goal

-- the moments before this one were given
abbrev pub invariant-loop : goal.invariant-loop
invariant-loop g l = record {
  moments : List ℕ;
  so_far : RoundsSoFar l.plan l.rows l.pace moments
      (stand l.fn.watcher.rows (dial_state (g.D.Dial.calls l.fn.dial) (g.D.Dial.faults l.fn.dial) (g.D.Dial.link_faults l.fn.dial))
      (out_tells (g.O.ByteSink.written l.fn.out) (g.O.ByteSink.write_faults l.fn.out)))
      (stand l.watcher.rows (dial_state (g.D.Dial.calls l.dial) (g.D.Dial.faults l.dial) (g.D.Dial.link_faults l.dial))
      (out_tells (g.O.ByteSink.written l.out) (g.O.ByteSink.write_faults l.out)));
  clock : PaceSoFar l.plan moments
      (pace_tells (g.K.Clock.given l.fn.clock) (g.K.Clock.rests l.fn.clock) (g.G.Going.asked l.fn.going) (g.G.Going.noes l.fn.going))
      (pace_tells (g.K.Clock.given l.clock) (g.K.Clock.rests l.clock) (g.G.Going.asked l.going) (g.G.Going.noes l.going));
  count : length moments ≡ l.counter;
  most : l.counter ≤ 2 ^ 64 - 1;
  left : l.pace.done < l.plan.rounds;
  threshold : l.watcher.threshold ≡ l.fn.watcher.threshold;
  length : length l.watcher.rows ≡ length l.fn.watcher.rows;
  last : g.K.Clock.last l.fn.clock ≤ g.K.Clock.last l.clock;
}
