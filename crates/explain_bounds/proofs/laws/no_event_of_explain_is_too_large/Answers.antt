use Rattle.explain_bounds.proofs.LargeLemmas.{run_has_none, serves_none}
use Rattle.explain_bounds.proofs.laws.no_event_of_explain_is_too_large.Goals as goal

pub returns-clause-served : goal.returns-clause-served
returns-clause-served c set rows input output large status h limit moment =
    serves_none c.no_event_is_too_large.ensures.owed c.statuses_are_final.ensures.errand c.statuses_are_final.ensures.handling set limit moment rows input output
    large status h

pub returns-clause-run : goal.returns-clause-run
returns-clause-run c =
    run_has_none c.no_event_is_too_large.ensures.owed c.statuses_are_final.ensures.errand c.statuses_are_final.ensures.handling
