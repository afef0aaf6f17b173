use Rattle.policy_rules.proofs.FirstLemmas.{first_match}
use Rattle.policy_rules.proofs.laws.first_match_decides.Goals as goal

pub returns : goal.returns
returns c = λ place rule policy user info h. first_match policy user info place rule h
