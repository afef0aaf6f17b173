-- The first rule that matches, one rule after another.
use Rattle.std.proofs.Common.{◌≡◌, ℕ, ◌+◌, List, [], ◌∷◌, ◌++◌, length, Bool, true, false, suc, true≢false, refl, sym, ap, ◌∙◌, arith, zero-add}
use Rattle.std.proofs.lemmas.List.{append-nil}
use Rattle.std.specs.List.{list_any}
use Rattle.std.specs.Prelude.{◌||◌}
use Rattle.front_base.specs.declared.info.Info.{Info}
use Rattle.front_base.specs.declared.user.User.{User}
use Rattle.policy_rules.specs.Matching.{matches}
use Rattle.policy_rules.specs.Policy.{IsFirstMatch, NoneMatches, first, first_from, by_rule, by_none, union}
use Rattle.policy_rules.specs.declared.decision.Decision.{Decision}
use Rattle.policy_rules.specs.declared.omit.Omit.{Omit}
use Rattle.policy_rules.specs.declared.policy.Policy.{Policy}
use Rattle.policy_rules.specs.declared.rule.Rule.{Rule}

module _ (policy : Policy) (user : User) (info : Info) where
  -- a rule that matches decides
  pub first_here : (place : ℕ) (rule : Rule) (rest : List Rule) → matches rule user info ≡ true
      → first_from place policy (rule ∷ rest) user info ≡ by_rule place policy rule
  unfolding first_from
  first_here place rule rest h = rw h refl

  -- a rule that doesn't is passed
  pub first_more : (place : ℕ) (rule : Rule) (rest : List Rule) → matches rule user info ≡ false
      → first_from place policy (rule ∷ rest) user info ≡ first_from (place + 1) policy rest user info
  unfolding first_from
  first_more place rule rest h = rw h refl

  pub first_none : (place : ℕ) → first_from place policy [] user info ≡ by_none policy
  unfolding first_from
  first_none place = refl

  first_false : (a b : Bool) → (a || b) ≡ false → a ≡ false
  first_false true b h = h
  first_false false b h = refl

  second_false : (a b : Bool) → (a || b) ≡ false → b ≡ false
  second_false true b h = absurd (true≢false h)
  second_false false b h = h

  -- rules that don't match are passed, and only counted
  first_after : (place : ℕ) (before behind : List Rule) → NoneMatches before user info
      → first_from place policy (before ++ behind) user info ≡ first_from (place + length before) policy behind user info
  first_after place [] behind none = ap (λ n. first_from n policy behind user info) (start place)
    where
      start : (n : ℕ) → n ≡ n + 0
      start n = omega arith
  first_after place (rule ∷ before) behind none =
      first_more place rule (before ++ behind) (first_false _ _ none)
      ∙ first_after (place + 1) before behind (second_false (matches rule user info) _ none)
      ∙ ap (λ n. first_from n policy behind user info) (counted place (length before))
    where
      counted : (n m : ℕ) → n + 1 + m ≡ n + suc m
      counted n m = omega arith

  -- the first rule that matches
  pub first_match : (place : ℕ) (rule : Rule) → IsFirstMatch place rule policy user info
      → first policy user info ≡ by_rule place policy rule
  unfolding first
  first_match place rule h =
      ap (λ rules. first_from 0 policy rules user info) h.rules
      ∙ first_after 0 h.before (rule ∷ h.after) h.earlier
      ∙ first_here (0 + length h.before) rule h.after h.this
      ∙ ap (λ n. by_rule n policy rule) (zero-add (length h.before) ∙ h.at)

  pub no_match : NoneMatches policy.rules user info → first policy user info ≡ by_none policy
  unfolding first
  no_match none =
      ap (λ rules. first_from 0 policy rules user info) (sym (append-nil policy.rules))
      ∙ first_after 0 policy.rules [] none
      ∙ first_none (0 + length policy.rules)

  -- what is true of the policy's stages and of each union with them is true of the decision's
  stays_on : (keeps : Omit → Bool) (place : ℕ) (rule : Rule) (rest : List Rule) → keeps (union policy.omit rule.omit) ≡ true
      → keeps (first_from (place + 1) policy rest user info).omit ≡ true
      → (b : Bool) → matches rule user info ≡ b → keeps (first_from place policy (rule ∷ rest) user info).omit ≡ true
  stays_on keeps place rule rest here later true e = ap (λ (d : Decision). keeps d.omit) (first_here place rule rest e) ∙ here
  stays_on keeps place rule rest here later false e = ap (λ (d : Decision). keeps d.omit) (first_more place rule rest e) ∙ later

  pub stays : (keeps : Omit → Bool) → keeps policy.omit ≡ true → ((b : Omit) → keeps (union policy.omit b) ≡ true) → (place : ℕ) (rules : List Rule)
      → keeps (first_from place policy rules user info).omit ≡ true
  stays keeps own joined place [] = ap (λ (d : Decision). keeps d.omit) (first_none place) ∙ own
  stays keeps own joined place (rule ∷ rest) =
      stays_on keeps place rule rest (joined rule.omit) (stays keeps own joined (place + 1) rest) (matches rule user info) refl
