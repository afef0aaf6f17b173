-- Which requests a rule of an audit policy is about (Kubernetes, "kube-apiserver Audit Configuration (v1)", PolicyRule).
use Rattle.std.specs.Prelude.{ℕ, ◌-◌, ◌==◌, ◌&&◌, ◌||◌, not, Bool, true, if◌then◌else◌, List, ◌∷◌, ◌++◌, length, take, nat_eq, codes}
use Rattle.std.specs.List.{list_any, starts_with, ends_with}
use Rattle.std.specs.Str.{bytes_eq}
use Rattle.front_base.specs.declared.info.Info.{Info}
use Rattle.front_base.specs.declared.user.User.{User}
use Rattle.policy_rules.specs.declared.rule.GroupResources.{GroupResources}
use Rattle.policy_rules.specs.declared.rule.Rule.{Rule}

abbrev pub is_empty : {A : Type 0} → List A → Bool
is_empty xs = length xs == 0

abbrev pub has : List ℕ → List (List ℕ) → Bool
has text texts = list_any (λ own. bytes_eq own text) texts

-- an empty list asks for nothing
abbrev pub admits : List (List ℕ) → List ℕ → Bool
admits texts text = is_empty texts || has text texts

abbrev pub shares : List (List ℕ) → List (List ℕ) → Bool
shares texts others = list_any (λ text. has text others) texts

abbrev pub admits_one : List (List ℕ) → List (List ℕ) → Bool
admits_one texts others = is_empty texts || shares texts others

-- ---- resources

-- both with a slash between, or `*` in place of one of them
abbrev pub is_subresource : List ℕ → List ℕ → List ℕ → Bool
is_subresource named resource subresource =
    bytes_eq named (resource ++ 47 ∷ subresource)
    || bytes_eq named (codes "*" ++ 47 ∷ subresource)
    || bytes_eq named (resource ++ 47 ∷ codes "*")

-- `*` names every resource; without a subresource, the resource's own name does
unfoldable pub is_resource : Info → List ℕ → Bool
is_resource info named =
    if bytes_eq named (codes "*") then true
    else if is_empty info.subresource then bytes_eq named info.resource
    else is_subresource named info.resource info.subresource

abbrev pub has_resource : Info → List (List ℕ) → Bool
has_resource info named = list_any (is_resource info) named

abbrev pub admits_resource : Info → List (List ℕ) → Bool
admits_resource info named = is_empty named || has_resource info named

-- the group is the request's, and the name and the resource are among those named
unfoldable pub element_matches : Info → GroupResources → Bool
element_matches info element =
    bytes_eq element.group info.group
    && admits element.resource_names info.name
    && admits_resource info element.resources

abbrev pub has_element : Info → List GroupResources → Bool
has_element info elements = list_any (element_matches info) elements

abbrev pub admits_element : Info → List GroupResources → Bool
admits_element info elements = is_empty elements || has_element info elements

abbrev pub is_about_resources : Rule → Bool
is_about_resources rule = not (is_empty rule.resources) || not (is_empty rule.namespaces)

-- a rule about resources matches requests for one of them, in one of the namespaces
unfoldable pub matches_resource : Rule → Info → Bool
matches_resource rule info =
    if not (is_about_resources rule) then true
    else info.resource_request && admits rule.namespaces info.namespace && admits_element info rule.resources

-- ---- other paths

-- what stands before the last byte
abbrev pub front : List ℕ → List ℕ
front text = take (length text - 1) text

-- the path itself, or what it begins with and `*`
unfoldable pub is_url : List ℕ → List ℕ → Bool
is_url path url = bytes_eq url path || ends_with nat_eq url (codes "*") && starts_with nat_eq path (front url)

abbrev pub has_url : List ℕ → List (List ℕ) → Bool
has_url path urls = list_any (is_url path) urls

-- a rule with URLs matches requests for one of these paths that name no resource
unfoldable pub matches_url : Rule → Info → Bool
matches_url rule info =
    if is_empty rule.non_resource_urls then true
    else not info.resource_request && has_url info.path rule.non_resource_urls

-- ---- the whole

unfoldable pub matches_user : Rule → User → Bool
matches_user rule user = admits rule.users user.name && admits_one rule.user_groups user.groups

unfoldable pub matches : Rule → User → Info → Bool
matches rule user info =
    matches_user rule user
    && admits rule.verbs info.verb
    && matches_resource rule info
    && matches_url rule info
