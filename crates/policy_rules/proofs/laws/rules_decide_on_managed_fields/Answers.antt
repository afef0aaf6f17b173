use Rattle.std.proofs.Common.{◌≡◌, Bool, false, Option, Some, None, refl, ap, ◌∙◌}
use Rattle.std.specs.Prelude.{unwrap_or}
use Rattle.policy_rules.specs.Policy.{omits_managed}
use Rattle.policy_rules.specs.declared.decision.Decision.{Decision}
use Rattle.policy_rules.proofs.FirstLemmas.{first_match, no_match}
use Rattle.policy_rules.proofs.laws.rules_decide_on_managed_fields.Goals as goal

-- without a rule's value the policy's counts
of_policy : (given : Option Bool) → omits_managed None given ≡ unwrap_or given false
of_policy (Some b) = refl
of_policy None = refl

pub returns : goal.returns
returns c = record {
  rule = λ place rule policy user info h value e.
      ap (λ (d : Decision). d.omit_managed) (first_match policy user info place rule h)
      ∙ ap (λ o. omits_managed o policy.omit_managed) e;
  policy = λ place rule policy user info h e.
      ap (λ (d : Decision). d.omit_managed) (first_match policy user info place rule h)
      ∙ ap (λ o. omits_managed o policy.omit_managed) e
      ∙ of_policy policy.omit_managed;
  no_rule = λ policy user info none.
      ap (λ (d : Decision). d.omit_managed) (no_match policy user info none) ∙ of_policy policy.omit_managed;
}
