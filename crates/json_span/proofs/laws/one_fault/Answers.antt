use Rattle.json_span.proofs.UniqueLemmas.{one_fault_of}
use Rattle.json_span.proofs.laws.one_fault.Goals as goal

pub returns : goal.returns
returns c = one_fault_of
