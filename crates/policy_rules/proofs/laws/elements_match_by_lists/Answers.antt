use Rattle.policy_rules.proofs.AboutLemmas.{element_tells}
use Rattle.policy_rules.proofs.laws.elements_match_by_lists.Goals as goal

pub returns : goal.returns
returns c = element_tells
