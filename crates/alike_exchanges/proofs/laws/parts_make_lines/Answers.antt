use Rattle.alike_exchanges.proofs.PartLemmas.{same_parts}
use Rattle.alike_exchanges.proofs.laws.parts_make_lines.Goals as goal

pub returns : goal.returns
returns c = same_parts
