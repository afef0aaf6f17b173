use Rattle.json_span.proofs.SpanLemmas.{value_stands}
use Rattle.json_span.proofs.laws.one_length.Goals as goal

pub returns : goal.returns
returns c = value_stands
