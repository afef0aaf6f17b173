use Rattle.std.proofs.Common.{◌≡◌, ℕ, ◌+◌, ◌<◌, List, ◌∷◌, get_or, drop, length, refl, sym, ap, ◌∙◌}
use Rattle.std.proofs.lemmas.List.{drop_more, drop_all}
use Rattle.policy_rules.specs.Policy.{first, first_from, by_rule}
use Rattle.policy_rules.specs.declared.rule.Rule.{Rule}
use Rattle.policy_rules.proofs.FirstLemmas.{first_here, first_more, first_none}
use Rattle.policy_rules.proofs.decision.decide.Goals as goal

-- the rules from the i-th on are that one and those after it
here : (rules : List Rule) (i : ℕ) (x : Rule) → i < length rules → x ≡ get_or rules i x → drop i rules ≡ x ∷ drop (i + 1) rules
here rules i x lt is = drop_more rules i x lt ∙ ap (λ y. y ∷ drop (i + 1) rules) (sym is)

pub loop-rule-init : goal.loop-rule-init
unfolding first
loop-rule-init c = record { counted = refl; rest = refl }

pub returns-then-matches : goal.returns-then-matches
returns-then-matches c =
    let policy = c.args.policy.now in
    let rules = c.args.policy.now.rules in
    let user = c.args.user.now in
    let info = c.args.info.now in
    let i = c.loop-rule.rule-index in
    let x = c.rule-item.result in
    let is = rw c.as_slice-rule-items.ensures.value at c.rule-item.is in
    let lt = rw c.as_slice-rule-items.ensures.value at c.loop-rule-test.true in
    let rest = drop (i + 1) rules in
    let at : by_rule i policy x ≡ first policy user info =
    sym (first_here policy user info i x rest (sym c.matches.ensures ∙ c.if-matches.true))
    ∙ ap (λ rs. first_from i policy rs user info) (sym (here rules i x lt is))
    ∙ c.loop-rule.invariant.rest in
    rw (c.loop-rule.invariant.counted, c.union.ensures, c.omits_managed.ensures) at

pub loop-rule-preserved : goal.loop-rule-preserved
loop-rule-preserved c =
    let policy = c.args.policy.now in
    let rules = c.args.policy.now.rules in
    let user = c.args.user.now in
    let info = c.args.info.now in
    let i = c.loop-rule.rule-index in
    let x = c.rule-item.result in
    let is = rw c.as_slice-rule-items.ensures.value at c.rule-item.is in
    let lt = rw c.as_slice-rule-items.ensures.value at c.loop-rule-test.true in
    record {
      counted = ap (λ n. n + 1) c.loop-rule.invariant.counted;
      rest =
          sym (first_more policy user info i x (drop (i + 1) rules) (sym c.matches.ensures ∙ c.if-matches.false))
          ∙ ap (λ rs. first_from i policy rs user info) (sym (here rules i x lt is))
          ∙ c.loop-rule.invariant.rest;
    }

pub returns : goal.returns
returns c =
    let policy = c.args.policy.now in
    let rules = c.args.policy.now.rules in
    let user = c.args.user.now in
    let info = c.args.info.now in
    let i = c.loop-rule.rule-index in
    let end = rw c.as_slice-rule-items.ensures.value at c.loop-rule-test.false in
    rw c.omits_managed-of_policy.ensures (sym (first_none policy user info i)
    ∙ ap (λ rs. first_from i policy rs user info) (sym (drop_all i rules end))
    ∙ c.loop-rule.invariant.rest)
