use Rattle.std.proofs.Common.{◌≡◌, length}
use Rattle.service_calls.specs.Calls.{dial_state}
use Rattle.probe_rounds.specs.Standing.{TurnsSoFar, out_tells, stand}
use Rattle.probe_rounds.proofs.rounds.turns.Given as goal

-- the rows before this one have had their turns
abbrev pub invariant-loop-at : goal.invariant-loop-at
invariant-loop-at g l = record {
  so_far : TurnsSoFar l.plan l.round l.rows l.at
      (stand l.fn.watcher.rows (dial_state (g.D.Dial.calls l.fn.dial) (g.D.Dial.faults l.fn.dial) (g.D.Dial.link_faults l.fn.dial))
      (out_tells (g.O.ByteSink.written l.fn.out) (g.O.ByteSink.write_faults l.fn.out)))
      (stand l.watcher.rows (dial_state (g.D.Dial.calls l.dial) (g.D.Dial.faults l.dial) (g.D.Dial.link_faults l.dial))
      (out_tells (g.O.ByteSink.written l.out) (g.O.ByteSink.write_faults l.out)));
  threshold : l.watcher.threshold ≡ l.fn.watcher.threshold;
  length : length l.watcher.rows ≡ length l.fn.watcher.rows;
}
