use Rattle.policy_rules.proofs.AboutLemmas.{url_tells}
use Rattle.policy_rules.proofs.laws.paths_are_named.Goals as goal

pub returns : goal.returns
returns c = url_tells
