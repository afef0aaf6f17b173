use Rattle.policy_rules.proofs.FirstLemmas.{no_match}
use Rattle.policy_rules.proofs.laws.no_match_records_nothing.Goals as goal

pub returns : goal.returns
returns c = no_match
