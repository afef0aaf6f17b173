-- What a policy decides (Kubernetes, "Auditing": the first rule that matches sets the level).
use Rattle.std.specs.Prelude.{◌≡◌, ℕ, ◌+◌, ◌||◌, Bool, true, false, if◌then◌else◌, List, [], ◌∷◌, ◌++◌, length, Option, Some, None}
use Rattle.std.specs.List.{list_any}
use Rattle.front_base.specs.declared.info.Info.{Info}
use Rattle.front_base.specs.declared.user.User.{User}
use Rattle.front_base.specs.declared.level.Level.TheVariants as level
use Rattle.policy_rules.specs.Matching.{matches}
use Rattle.policy_rules.specs.declared.decision.Decision.{Decision}
use Rattle.policy_rules.specs.declared.omit.Omit.{Omit}
use Rattle.policy_rules.specs.declared.policy.Policy.{Policy}
use Rattle.policy_rules.specs.declared.rule.Rule.{Rule}

abbrev pub nothing : Omit
nothing = record { received = false; started = false; complete = false }

-- the stages that one of both leaves out
abbrev pub union : Omit → Omit → Omit
union a b = record {
  received = a.received || b.received;
  started = a.started || b.started;
  complete = a.complete || b.complete;
}

-- whether managed fields are left out: the rule's value where it is given, else the policy's, else false
abbrev pub omits_managed : Option Bool → Option Bool → Bool
omits_managed (Some of_rule) of_policy = of_rule
omits_managed None (Some of_policy) = of_policy
omits_managed None None = false

-- the level of the rule at that place, without its stages and those of the policy
abbrev pub by_rule : ℕ → Policy → Rule → Decision
by_rule place policy rule = record {
  rule = Some place;
  level = rule.level;
  omit = union policy.omit rule.omit;
  omit_managed = omits_managed rule.omit_managed policy.omit_managed;
}

-- no rule: no event, and what the policy says alone
abbrev pub by_none : Policy → Decision
by_none policy = record {
  rule = None;
  level = level.None;
  omit = policy.omit;
  omit_managed = omits_managed None policy.omit_managed;
}

-- the first of the rules that matches, where the places begin with that number
unfoldable pub first_from : ℕ → Policy → List Rule → User → Info → Decision
first_from place policy [] user info = by_none policy
first_from place policy (rule ∷ rest) user info =
    if matches rule user info then by_rule place policy rule
    else first_from (place + 1) policy rest user info

unfoldable pub first : Policy → User → Info → Decision
first policy user info = first_from 0 policy policy.rules user info

-- ---- which rule that is

-- none of the rules matches
abbrev pub NoneMatches : List Rule → User → Info → Type 0
NoneMatches rules user info = list_any (λ r. matches r user info) rules ≡ false

-- the rule matches and has that place, and none before it matches
pub record IsFirstMatch (place : ℕ) (rule : Rule) (policy : Policy) (user : User) (info : Info) : Type 0 where
  pub before : List Rule
  pub after : List Rule
  pub rules : policy.rules ≡ before ++ rule ∷ after
  pub at : length before ≡ place
  pub earlier : NoneMatches before user info
  pub this : matches rule user info ≡ true

-- ---- the policy of no file

-- a rule that matches every request
abbrev pub any_request : Rule
any_request = record {
  level = level.Metadata;
  users = [];
  user_groups = [];
  verbs = [];
  resources = [];
  namespaces = [];
  non_resource_urls = [];
  omit = nothing;
  omit_managed = None;
}

-- every request at level Metadata
abbrev pub all_metadata : Policy
all_metadata = record { omit = nothing; omit_managed = None; rules = any_request ∷ [] }
