use Rattle.truncate_backend.proofs.SentLemmas.{keeps-one, keeps-none, keeps-join}
use Rattle.truncate_backend.proofs.laws.tries_keep_what_was_sent.Goals as goal

pub returns-clause-one : goal.returns-clause-one
returns-clause-one c = keeps-one

pub returns-clause-none : goal.returns-clause-none
returns-clause-none c = keeps-none

pub returns-clause-join : goal.returns-clause-join
returns-clause-join c = keeps-join
