use Rattle.alike_exchanges.proofs.OwedLemmas.{alike_at_none, alike_itself, alike_but_for_bodies}
use Rattle.alike_exchanges.proofs.laws.what_exchanges_are_alike.Goals as goal

pub returns-clause-same : goal.returns-clause-same
returns-clause-same c = alike_itself

pub returns-clause-none : goal.returns-clause-none
returns-clause-none c = alike_at_none

pub returns-clause-bodies : goal.returns-clause-bodies
returns-clause-bodies c = alike_but_for_bodies
