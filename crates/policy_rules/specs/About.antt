-- Which requests a rule is about, said list by list (Kubernetes, "kube-apiserver Audit Configuration (v1)", PolicyRule
-- and GroupResources). An empty list asks for nothing.
use Rattle.std.specs.Prelude.{◌≡◌, ◌≢◌, ◌⊎◌, ℕ, true, false, List, [], ◌++◌, Any, Contains, codes}
use Rattle.front_base.specs.declared.info.Info.{Info}
use Rattle.front_base.specs.declared.user.User.{User}
use Rattle.policy_rules.specs.declared.rule.GroupResources.{GroupResources}
use Rattle.policy_rules.specs.declared.rule.Rule.{Rule}

-- `pods/log`; `*/log`; `pods/*`
abbrev pub NamesSubresource : Info → List ℕ → Type 0
NamesSubresource info named =
    (named ≡ info.resource ++ (codes "/" ++ info.subresource))
    ⊎ (named ≡ codes "*/" ++ info.subresource)
    ⊎ (named ≡ info.resource ++ codes "/*")

-- `*`; without a subresource the resource's own name; with one a name with both. So `pods` is named by `*` and `pods`
-- alone, and `pods/log` isn't named by `pods`
abbrev pub NamesResource : Info → List ℕ → Type 0
NamesResource info named =
    (named ≡ codes "*")
    ⊎ ((info.subresource ≡ []) × (named ≡ info.resource))
    ⊎ ((info.subresource ≢ []) × NamesSubresource info named)

-- the group is the request's, and each list is empty or has what the request asks for
pub record HasResource (info : Info) (element : GroupResources) : Type 0 where
  pub group : element.group ≡ info.group
  pub names : (element.resource_names ≡ []) ⊎ Contains element.resource_names info.name
  pub resources : (element.resources ≡ []) ⊎ Any (NamesResource info) element.resources

-- the request is for a resource; `""` among the namespaces stands for a request without one
pub record IsAboutResource (rule : Rule) (info : Info) : Type 0 where
  pub request : info.resource_request ≡ true
  pub namespaces : (rule.namespaces ≡ []) ⊎ Contains rule.namespaces info.namespace
  pub resources : (rule.resources ≡ []) ⊎ Any (HasResource info) rule.resources

-- the path itself, or what it begins with and `*`
abbrev pub NamesPath : List ℕ → List ℕ → Type 0
NamesPath path url =
    (url ≡ path) ⊎ ((start : List ℕ) × (rest : List ℕ) × (url ≡ start ++ codes "*") × (path ≡ start ++ rest))

-- the request is for a path that names no resource
abbrev pub IsAboutPath : Rule → Info → Type 0
IsAboutPath rule info = (info.resource_request ≡ false) × Any (NamesPath info.path) rule.non_resource_urls

pub record IsAbout (rule : Rule) (user : User) (info : Info) : Type 0 where
  pub users : (rule.users ≡ []) ⊎ Contains rule.users user.name
  pub groups : (rule.user_groups ≡ []) ⊎ Any (Contains user.groups) rule.user_groups
  pub verbs : (rule.verbs ≡ []) ⊎ Contains rule.verbs info.verb
  pub resources : ((rule.resources ≡ []) × (rule.namespaces ≡ [])) ⊎ IsAboutResource rule info
  pub urls : (rule.non_resource_urls ≡ []) ⊎ IsAboutPath rule info
