use Rattle.run_laws.proofs.NumberLemmas.{from_first}
use Rattle.run_laws.proofs.losses.owed_lines_are_numbered.Goals as goal

pub returns : goal.returns
returns c = from_first
