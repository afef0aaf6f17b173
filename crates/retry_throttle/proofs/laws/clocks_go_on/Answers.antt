use Rattle.retry_throttle.proofs.ClockLemmas.{passed_none, passed_on}
use Rattle.retry_throttle.proofs.laws.clocks_go_on.Goals as goal

pub returns-clause-none : goal.returns-clause-none
returns-clause-none c = passed_none

pub returns-clause-more : goal.returns-clause-more
returns-clause-more c = passed_on
