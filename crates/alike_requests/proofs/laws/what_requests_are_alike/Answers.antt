use Rattle.alike_requests.proofs.RequestLemmas.{alike_at_metadata, alike_at_none}
use Rattle.alike_requests.proofs.laws.what_requests_are_alike.Goals as goal

pub returns-clause-none : goal.returns-clause-none
returns-clause-none c = alike_at_none

pub returns-clause-metadata : goal.returns-clause-metadata
returns-clause-metadata c = alike_at_metadata
