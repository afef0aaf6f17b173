use Rattle.request_bounds.proofs.LimitLemmas.{event-fits, owed-fits, noted-fits}
use Rattle.request_bounds.proofs.laws.no_event_is_too_large.Goals as goal

pub returns-clause-fits : goal.returns-clause-fits
returns-clause-fits c = event-fits c.blocks_are_bounded.ensures c.heads_bound_lines.ensures

pub returns-clause-owed : goal.returns-clause-owed
returns-clause-owed c = owed-fits c.blocks_are_bounded.ensures c.heads_bound_lines.ensures

pub returns-clause-noted : goal.returns-clause-noted
returns-clause-noted c = noted-fits c.blocks_are_bounded.ensures c.heads_bound_lines.ensures
