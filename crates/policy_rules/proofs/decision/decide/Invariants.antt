use Rattle.std.proofs.Common.{◌≡◌, drop}
use Rattle.policy_rules.specs.Policy.{first, first_from}
use Rattle.policy_rules.proofs.decision.decide.Given as goal

-- no rule that was passed matches
abbrev pub invariant-loop-rule : goal.invariant-loop-rule
invariant-loop-rule l = record {
  counted : l.place ≡ l.rule-index;
  rest : first_from l.rule-index l.policy (drop l.rule-index l.policy.rules) l.user l.info ≡ first l.policy l.user l.info;
}
