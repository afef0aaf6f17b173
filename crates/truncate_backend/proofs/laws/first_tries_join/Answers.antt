use Rattle.truncate_backend.proofs.SentLemmas.{all-noted, all-single}
use Rattle.truncate_backend.proofs.laws.first_tries_join.Goals as goal

pub returns-clause-noted : goal.returns-clause-noted
returns-clause-noted c = all-noted

pub returns-clause-single : goal.returns-clause-single
returns-clause-single c = all-single
