use Rattle.json_prune.proofs.KeptLemmas.{kept_stands, kept_depth, kept_shorter}
use Rattle.json_prune.proofs.laws.kept_is_json.Goals as goal

pub returns : goal.returns
returns c = record { stands = kept_stands; shallower = kept_depth; shorter = kept_shorter }
