use Rattle.policy_rules.proofs.AboutLemmas.{rule_tells}
use Rattle.policy_rules.proofs.laws.rules_match_by_lists.Goals as goal

pub returns : goal.returns
returns c = rule_tells
