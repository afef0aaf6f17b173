use Rattle.policy_rules.proofs.AboutLemmas.{resource_tells}
use Rattle.policy_rules.proofs.laws.resources_are_named.Goals as goal

pub returns : goal.returns
returns c = resource_tells
