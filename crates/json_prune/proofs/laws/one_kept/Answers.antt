use Rattle.json_prune.proofs.KeptLemmas.{one_kept_of}
use Rattle.json_prune.proofs.laws.one_kept.Goals as goal

pub returns : goal.returns
returns c = one_kept_of c.one_value.ensures
