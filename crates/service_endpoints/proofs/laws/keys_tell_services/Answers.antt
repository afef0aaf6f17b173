use Rattle.service_endpoints.proofs.LawLemmas.{keys_are_taken, keys_are_distinct, no_delegate, no_others, delegate_apart}
use Rattle.service_endpoints.proofs.laws.keys_tell_services.Goals as goal

pub returns-clause-taken : goal.returns-clause-taken
returns-clause-taken c = keys_are_taken

pub returns-clause-one : goal.returns-clause-one
returns-clause-one c = keys_are_distinct

pub returns-clause-delegate : goal.returns-clause-delegate
returns-clause-delegate c = no_delegate

pub returns-clause-others : goal.returns-clause-others
returns-clause-others c = no_others

pub returns-clause-apart : goal.returns-clause-apart
returns-clause-apart c = delegate_apart
