use Rattle.request_info.proofs.MethodLemmas.{method_aside}
use Rattle.request_info.proofs.laws.the_method_gives_the_verb_alone.Goals as goal

pub returns : goal.returns
returns c = method_aside
