use Rattle.alike_exchanges.proofs.SentLemmas.{same_cuts, same_each}
use Rattle.alike_exchanges.proofs.laws.cuts_part_lines.Goals as goal

pub returns-clause-each : goal.returns-clause-each
returns-clause-each c = same_each

pub returns-clause-single : goal.returns-clause-single
returns-clause-single c = same_cuts
