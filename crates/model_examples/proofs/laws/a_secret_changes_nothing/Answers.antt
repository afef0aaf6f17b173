use Rattle.model_examples.proofs.Runs.{all_taken, bodies_alike}
use Rattle.model_examples.proofs.laws.a_secret_changes_nothing.Goals as goal

pub returns-clause-taken : goal.returns-clause-taken
returns-clause-taken c = all_taken

pub returns-clause-alike : goal.returns-clause-alike
returns-clause-alike c = bodies_alike
