use Rattle.std.proofs.Common.{inl, inr, ap, arith, length}
use Rattle.rehearse_runs.proofs.run.rehearse.Goals as goal

pub returns-then-branch-clause-run : goal.returns-then-branch-clause-run
returns-then-branch-clause-run g c =
    let agrees = c.in_ok-agrees.ensures c.if-branch.true in
    elim c.run_configured-ended.ensures
    [ inl served ↦ served | inr none ↦ absurd (omega (arith, ap length none.none, agrees.all, c.args.plan.some)) ]
