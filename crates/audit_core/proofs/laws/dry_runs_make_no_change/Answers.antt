use Rattle.audit_core.proofs.TrialLemmas.{none_made}
use Rattle.audit_core.proofs.laws.dry_runs_make_no_change.Goals as goal

pub returns-clause-query : goal.returns-clause-query
returns-clause-query c = λ set r moment rows trial.
    none_made set r moment rows (λ local info user change.
    c.dry_runs_change_nothing.ensures.query local info r.head moment r.body user change trial)

pub returns-clause-options : goal.returns-clause-options
returns-clause-options c = λ set r moment rows method asks.
    none_made set r moment rows (λ local info user change.
    c.dry_runs_change_nothing.ensures.options local info r.head moment r.body user change method asks)
