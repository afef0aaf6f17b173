use Rattle.resources_laws.proofs.LaterLemmas.{goes_on}
use Rattle.resources_laws.proofs.laws.later_runs_read_them.Goals as goal

pub returns : goal.returns
returns c = λ later bytes lines d b run.
    goes_on c.documents_are_read_back.ensures.back c.documents_are_read_back.ensures.one later bytes lines d b run
