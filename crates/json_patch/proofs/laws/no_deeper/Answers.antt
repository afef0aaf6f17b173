use Rattle.json_patch.proofs.MergeLaws as law
use Rattle.json_patch.proofs.laws.no_deeper.Goals as goal

pub returns : goal.returns
returns c = law.no_deeper
