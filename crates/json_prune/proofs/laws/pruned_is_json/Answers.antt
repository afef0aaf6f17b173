use Rattle.json_prune.proofs.KeptLemmas.{pruned_stands}
use Rattle.json_prune.proofs.laws.pruned_is_json.Goals as goal

pub returns : goal.returns
returns c = pruned_stands
