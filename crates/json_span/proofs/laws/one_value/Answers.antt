use Rattle.json_span.proofs.UniqueLemmas.{one_value_of}
use Rattle.json_span.proofs.laws.one_value.Goals as goal

pub returns : goal.returns
returns c = one_value_of
