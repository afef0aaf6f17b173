use Rattle.policy_rules.specs.Policy.{first}
use Rattle.policy_rules.specs.declared.omit.Omit.{Omit}
use Rattle.policy_rules.proofs.FirstLemmas.{stays}
use Rattle.policy_rules.proofs.MatchLemmas.{or_first}
use Rattle.policy_rules.proofs.laws.policy_stages_always_count.Goals as goal

pub returns : goal.returns
unfolding first
returns c = record {
  received = λ policy user info own.
      stays policy user info (λ (o : Omit). o.received) own (λ b. or_first _ _ own) 0 policy.rules;
  started = λ policy user info own.
      stays policy user info (λ (o : Omit). o.started) own (λ b. or_first _ _ own) 0 policy.rules;
  complete = λ policy user info own.
      stays policy user info (λ (o : Omit). o.complete) own (λ b. or_first _ _ own) 0 policy.rules;
}
