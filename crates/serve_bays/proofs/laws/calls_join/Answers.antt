use Rattle.serve_bays.proofs.CallLemmas.{joins, joins_none}
use Rattle.serve_bays.proofs.laws.calls_join.Goals as goal

pub returns-clause-join : goal.returns-clause-join
returns-clause-join c a b d xs ys p q = joins a b d xs ys p q

pub returns-clause-none : goal.returns-clause-none
returns-clause-none c a = joins_none a
