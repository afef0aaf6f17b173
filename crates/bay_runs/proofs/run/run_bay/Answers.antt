use Rattle.std.proofs.Common.{sym, ◌∙◌}
use Rattle.bay_runs.proofs.RunLemmas.{none_so_far, more_so_far, spent_runs, spent_is, stop_runs}
use Rattle.bay_runs.proofs.run.run_bay.Goals as goal

pub loop-init : goal.loop-init
loop-init g c = record { ready = c.requires.ready; so_far = none_so_far _ _ _ _ _ }

pub returns-then-is_spent-clause-runs : goal.returns-then-is_spent-clause-runs
returns-then-is_spent-clause-runs g c =
    spent_runs _ _ _ _ _ _ _ _ _ _ _ c.in-Ok.kind c.loop.invariant.so_far c.in-Ok.ensures.ok
    (spent_is c.in-Ok.kind (sym c.is_spent.ensures ∙ c.if-is_spent.true))

pub loop-preserved : goal.loop-preserved
loop-preserved g c = record {
  ready = c.serve_next.ensures.ready;
  so_far = more_so_far _ _ _ _ _ _ _ _ _ _ _ c.in-Ok.kind c.loop.invariant.so_far c.in-Ok.ensures.ok
      (sym c.is_spent.ensures ∙ c.if-is_spent.false);
}
