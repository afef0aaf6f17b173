use Rattle.json_prune.proofs.KeptLemmas.{mended_settles}
use Rattle.json_prune.proofs.OrderLemmas.{managed_mended}
use Rattle.json_prune.proofs.laws.mended_once.Goals as goal

pub returns : goal.returns
returns c = record { once = mended_settles; order = managed_mended }
