use Rattle.model_examples.proofs.Runs.{not_alike, other_taken, other_bytes}
use Rattle.model_examples.proofs.laws.a_status_shows.Goals as goal

pub returns-clause-apart : goal.returns-clause-apart
returns-clause-apart c = not_alike

pub returns-clause-taken : goal.returns-clause-taken
returns-clause-taken c = other_taken

pub returns-clause-bytes : goal.returns-clause-bytes
returns-clause-bytes c = other_bytes
