use Rattle.json_patch.proofs.MergeLaws.{twice}
use Rattle.json_patch.proofs.laws.twice_is_once.Goals as goal

pub returns : goal.returns
returns c = λ target patch t p. twice patch target t p
