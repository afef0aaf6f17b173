use Rattle.truncate_backend.proofs.SentLemmas.{stays-none, stays-join}
use Rattle.truncate_backend.proofs.laws.own_sinks_stay.Goals as goal

pub returns-clause-none : goal.returns-clause-none
returns-clause-none c = stays-none

pub returns-clause-join : goal.returns-clause-join
returns-clause-join c = stays-join
