-- An audit policy in JSON (Kubernetes, "kube-apiserver Audit Configuration (v1)") and what is read of it, or its first
-- fault.
use Rattle.std.specs.Prelude.{ℕ, ◌+◌, ◌==◌, ◌&&◌, ◌||◌, not, Bool, true, false, if◌then◌else◌, List, [], ◌∷◌, nat_eq, Option, Some, None, is_some, option_and_then, Result, Ok, Err, codes}
use Rattle.std.specs.List.{list_any, starts_with}
use Rattle.std.specs.Str.{bytes_eq}
use Rattle.serde_json.specs.Data.{Data, Items, no_items, item}
use Rattle.serde_json.specs.Find.{as_bool, as_str}
use Rattle.json_value.specs.Head.{head_fault}
use Rattle.json_value.specs.Members.{present, text_in, is_text, is_object, list_or}
use Rattle.json_value.specs.Read.{value_of}
use Rattle.json_value.specs.Results.{◌>>=◌, faultless, found_or}
use Rattle.front_base.specs.Level.{level_of as level_named}
use Rattle.front_base.specs.Stage.{stage_name, stage_of}
use Rattle.front_base.specs.declared.level.Level.{Level}
use Rattle.front_base.specs.declared.stage.Stage.TheVariants as stage
use Rattle.policy_rules.specs.Matching.{is_empty, is_about_resources, front}
use Rattle.policy_rules.specs.Policy.{nothing}
use Rattle.policy_json.specs.declared.fault.PolicyFault.{PolicyFault}
use Rattle.policy_json.specs.declared.fault.PolicyFault.TheVariants.{NotJson, NoRules, BadField, BothKinds, BadUrl, NamesWithoutResources}
use Rattle.policy_json.specs.declared.members.Omissions.{Omissions}
use Rattle.policy_rules.specs.declared.omit.Omit.{Omit}
use Rattle.policy_rules.specs.declared.policy.Policy.{Policy}
use Rattle.policy_json.specs.declared.reading.Subjects.{Subjects}
use Rattle.policy_json.specs.declared.reading.Targets.{Targets}
use Rattle.policy_rules.specs.declared.rule.GroupResources.{GroupResources}
use Rattle.policy_rules.specs.declared.rule.Rule.{Rule}

-- what is read of each item in order, given its place; the first faulty one gives the answer
abbrev pub each_from : {A : Type 0} → (ℕ → Data → Result A PolicyFault) → ℕ → Items → Result (List A) PolicyFault
each_from read place no_items = Ok []
each_from read place (item d ds) = do
  first ← read place d
  others ← each_from read (place + 1) ds
  Ok (first ∷ others)

-- ---- lists of texts

abbrev pub text_of : Option ℕ → List ℕ → Data → Result (List ℕ) PolicyFault
text_of rule name d = found_or (BadField rule name) (as_str d)

unfoldable pub texts_of : Option ℕ → List ℕ → Items → Result (List (List ℕ)) PolicyFault
texts_of rule name ds = each_from (λ place d. text_of rule name d) 0 ds

-- absent is empty
abbrev pub texts_in : Option ℕ → List ℕ → Option Data → Result (List (List ℕ)) PolicyFault
texts_in rule name found = list_or (BadField rule name) (Ok []) (texts_of rule name) found

-- ---- stages

-- a text that names a stage
abbrev pub is_stage : Data → Bool
is_stage d = is_some (option_and_then stage_of (as_str d))

abbrev pub are_stages : Items → Bool
are_stages no_items = true
are_stages (item d ds) = is_stage d && are_stages ds

abbrev pub names_stage : List ℕ → Items → Bool
names_stage name no_items = false
names_stage name (item d ds) = is_text name (Some d) || names_stage name ds

abbrev pub omit_by : Items → Omit
omit_by ds = record {
  received = names_stage (stage_name stage.RequestReceived) ds;
  started = names_stage (stage_name stage.ResponseStarted) ds;
  complete = names_stage (stage_name stage.ResponseComplete) ds;
}

unfoldable pub omit_of : Option ℕ → Items → Result Omit PolicyFault
omit_of rule ds = if are_stages ds then Ok (omit_by ds) else Err (BadField rule (codes "omitStages"))

-- names of stages; absent is none
abbrev pub omit_in : Option ℕ → Option Data → Result Omit PolicyFault
omit_in rule found = list_or (BadField rule (codes "omitStages")) (Ok nothing) (omit_of rule) found

-- ---- managed fields

-- true or false; absent is not given
abbrev pub managed_in : Option ℕ → Option Data → Result (Option Bool) PolicyFault
managed_in rule None = Ok None
managed_in rule (Some d) = found_or (BadField rule (codes "omitManagedFields")) (as_bool d) >>= (λ b. Ok (Some b))

-- what both a policy and a rule may leave out
unfoldable pub omissions_of : Option ℕ → Data → Result Omissions PolicyFault
omissions_of rule d = do
  stages ← omit_in rule (present (codes "omitStages") d)
  managed ← managed_in rule (present (codes "omitManagedFields") d)
  Ok (record { stages = stages; managed = managed })

-- ---- levels

abbrev pub level_in : Option Data → Option Level
level_in found = option_and_then level_named (text_in found)

unfoldable pub level_of : ℕ → Data → Result Level PolicyFault
level_of place d = found_or (BadField (Some place) (codes "level")) (level_in (present (codes "level") d))

-- ---- resources

-- absent is the core group, whose name is empty
abbrev pub group_in : ℕ → Option Data → Result (List ℕ) PolicyFault
group_in place None = Ok []
group_in place (Some d) = text_of (Some place) (codes "resources") d

unfoldable pub element_members : ℕ → Data → Result GroupResources PolicyFault
element_members place d = do
  group ← group_in place (present (codes "group") d)
  resources ← texts_in (Some place) (codes "resources") (present (codes "resources") d)
  names ← texts_in (Some place) (codes "resources") (present (codes "resourceNames") d)
  Ok (record { group = group; resources = resources; resource_names = names })

unfoldable pub element_of : ℕ → Data → Result GroupResources PolicyFault
element_of place d =
    if is_object d then element_members place d else Err (BadField (Some place) (codes "resources"))

unfoldable pub elements_of : ℕ → Items → Result (List GroupResources) PolicyFault
elements_of rule ds = each_from (λ place d. element_of rule d) 0 ds

-- absent is empty
abbrev pub elements_in : ℕ → Option Data → Result (List GroupResources) PolicyFault
elements_in place found = list_or (BadField (Some place) (codes "resources")) (Ok []) (elements_of place) found

-- ---- a rule

abbrev pub has_asterisk : List ℕ → Bool
has_asterisk text = list_any (λ b. b == 42) text

-- `*`, or a path that has `*` at most at its end
unfoldable pub is_good_url : List ℕ → Bool
is_good_url url = bytes_eq url (codes "*") || starts_with nat_eq url (codes "/") && not (has_asterisk (front url))

abbrev pub has_bad_url : List (List ℕ) → Bool
has_bad_url urls = list_any (λ url. not (is_good_url url)) urls

-- names of resources, and no resource that they are of
abbrev pub has_lone_names : List GroupResources → Bool
has_lone_names elements = list_any (λ e. not (is_empty e.resource_names) && is_empty e.resources) elements

-- what the members say together
unfoldable pub fit_together : ℕ → Rule → Result (Unit {0}) PolicyFault
fit_together place rule =
    if not (is_empty rule.non_resource_urls) && is_about_resources rule then
    Err (BothKinds place)
    else if has_bad_url rule.non_resource_urls then Err (BadUrl place)
    else if has_lone_names rule.resources then Err (NamesWithoutResources place)
    else Ok tt

-- who asks, and how
unfoldable pub subjects_of : ℕ → Data → Result Subjects PolicyFault
subjects_of place d = do
  users ← texts_in (Some place) (codes "users") (present (codes "users") d)
  user_groups ← texts_in (Some place) (codes "userGroups") (present (codes "userGroups") d)
  verbs ← texts_in (Some place) (codes "verbs") (present (codes "verbs") d)
  Ok (record { users = users; user_groups = user_groups; verbs = verbs })

-- what is asked for
unfoldable pub targets_of : ℕ → Data → Result Targets PolicyFault
targets_of place d = do
  resources ← elements_in place (present (codes "resources") d)
  namespaces ← texts_in (Some place) (codes "namespaces") (present (codes "namespaces") d)
  urls ← texts_in (Some place) (codes "nonResourceURLs") (present (codes "nonResourceURLs") d)
  Ok (record { resources = resources; namespaces = namespaces; non_resource_urls = urls })

abbrev pub rule_with : Level → Subjects → Targets → Omissions → Rule
rule_with level subjects targets omissions = record {
  level = level;
  users = subjects.users;
  user_groups = subjects.user_groups;
  verbs = subjects.verbs;
  resources = targets.resources;
  namespaces = targets.namespaces;
  non_resource_urls = targets.non_resource_urls;
  omit = omissions.stages;
  omit_managed = omissions.managed;
}

unfoldable pub rule_members : ℕ → Data → Result Rule PolicyFault
rule_members place d = do
  level ← level_of place d
  subjects ← subjects_of place d
  targets ← targets_of place d
  omissions ← omissions_of (Some place) d
  Ok (rule_with level subjects targets omissions)

unfoldable pub checked_rule : ℕ → Data → Result Rule PolicyFault
checked_rule place d = do
  rule ← rule_members place d
  fits ← fit_together place rule
  Ok rule

unfoldable pub rule_of : ℕ → Data → Result Rule PolicyFault
rule_of place d = if is_object d then checked_rule place d else Err (BadField (Some place) (codes "rules"))

-- ---- the policy

-- a policy of this version of its API, whose numbers are all whole and fit 64 bits
unfoldable pub head_of : Data → Result (Unit {0}) PolicyFault
head_of d = faultless (BadField None) (head_fault false (codes "Policy") (codes "audit.k8s.io/v1") d)

unfoldable pub rules_of : Items → Result (List Rule) PolicyFault
rules_of ds = each_from rule_of 0 ds

-- a list that isn't empty
abbrev pub some_rules : Items → Result (List Rule) PolicyFault
some_rules no_items = Err NoRules
some_rules (item d ds) = rules_of (item d ds)

-- absent is empty
abbrev pub rules_in : Option Data → Result (List Rule) PolicyFault
rules_in found = list_or (BadField None (codes "rules")) (Err NoRules) some_rules found

-- the policy of a value, or the first of its faults in this order
unfoldable pub policy_of : Data → Result Policy PolicyFault
policy_of d = do
  head ← head_of d
  omissions ← omissions_of None d
  rules ← rules_in (present (codes "rules") d)
  Ok (record { omit = omissions.stages; omit_managed = omissions.managed; rules = rules })

-- the policy of a text
unfoldable pub read_policy : List ℕ → Result Policy PolicyFault
read_policy bytes = do
  d ← found_or NotJson (value_of bytes)
  policy_of d
