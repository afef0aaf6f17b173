use Rattle.model_worlds.proofs.ExampleRun.{all_taken, two_lines}
use Rattle.model_worlds.proofs.laws.an_example_runs.Goals as goal

pub returns-clause-taken : goal.returns-clause-taken
returns-clause-taken c = all_taken

pub returns-clause-written : goal.returns-clause-written
returns-clause-written c = two_lines
