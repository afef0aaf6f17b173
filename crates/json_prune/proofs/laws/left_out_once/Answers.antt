use Rattle.json_prune.proofs.PruneLemmas.{prune_once, prune_comm}
use Rattle.json_prune.proofs.TableLemmas.{managed_once}
use Rattle.json_prune.proofs.laws.left_out_once.Goals as goal

pub returns : goal.returns
returns c = record { path = prune_once; order = λ these those v. prune_comm those these v; managed = managed_once }
