use Rattle.json_span.proofs.FlatLemmas.{flat_stands}
use Rattle.json_span.proofs.laws.compact_keeps_the_value.Goals as goal

pub returns : goal.returns
returns c = flat_stands
