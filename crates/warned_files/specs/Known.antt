-- The members of Kubernetes' public types ("kube-apiserver Audit Configuration (v1)"; "APIService",
-- apiregistration.k8s.io/v1).
use Rattle.std.specs.Prelude.{ℕ, ◌||◌, Bool, false, if◌then◌else◌, List, Option, Some, None, codes}
use Rattle.std.specs.Str.{bytes_eq}
use Rattle.warned_files.specs.declared.kind.Kind.{Kind}
use Rattle.warned_files.specs.declared.kind.Kind.TheVariants.{Policy, PolicyRule, GroupResources, ServiceList, Service, ServiceSpec, ServiceReference, ServiceStatus, ServiceCondition}
use Rattle.warned_files.specs.declared.kind.Member.{Member}
use Rattle.warned_files.specs.declared.kind.Member.TheVariants.{Unknown, Leaf, Part}

-- ---- members whose values aren't looked at

-- of every object of an API
abbrev pub is_head : List ℕ → Bool
is_head name = bytes_eq name (codes "apiVersion") || bytes_eq name (codes "kind") || bytes_eq name (codes "metadata")

-- of a policy and of a rule
abbrev pub is_omission : List ℕ → Bool
is_omission name = bytes_eq name (codes "omitManagedFields") || bytes_eq name (codes "omitStages")

abbrev pub is_rule_leaf : List ℕ → Bool
is_rule_leaf name =
    bytes_eq name (codes "level") || bytes_eq name (codes "users") || bytes_eq name (codes "userGroups")
    || bytes_eq name (codes "verbs") || bytes_eq name (codes "namespaces") || bytes_eq name (codes "nonResourceURLs")

abbrev pub is_group_leaf : List ℕ → Bool
is_group_leaf name =
    bytes_eq name (codes "group") || bytes_eq name (codes "resources") || bytes_eq name (codes "resourceNames")

abbrev pub is_spec_leaf : List ℕ → Bool
is_spec_leaf name =
    bytes_eq name (codes "group") || bytes_eq name (codes "version") || bytes_eq name (codes "groupPriorityMinimum")
    || bytes_eq name (codes "versionPriority") || bytes_eq name (codes "insecureSkipTLSVerify") || bytes_eq name (codes "caBundle")

abbrev pub is_reference_leaf : List ℕ → Bool
is_reference_leaf name = bytes_eq name (codes "namespace") || bytes_eq name (codes "name") || bytes_eq name (codes "port")

abbrev pub is_condition_leaf : List ℕ → Bool
is_condition_leaf name =
    bytes_eq name (codes "type") || bytes_eq name (codes "status") || bytes_eq name (codes "lastTransitionTime")
    || bytes_eq name (codes "reason") || bytes_eq name (codes "message")

abbrev pub has_leaf : Kind → List ℕ → Bool
has_leaf Policy name = is_head name || is_omission name
has_leaf PolicyRule name = is_rule_leaf name || is_omission name
has_leaf GroupResources name = is_group_leaf name
has_leaf ServiceList name = is_head name
has_leaf Service name = is_head name
has_leaf ServiceSpec name = is_spec_leaf name
has_leaf ServiceReference name = is_reference_leaf name
has_leaf ServiceStatus name = false
has_leaf ServiceCondition name = is_condition_leaf name

-- ---- members that hold an object of another type, or a list of such

abbrev pub part : Kind → List ℕ → Option Kind
part Policy name = if bytes_eq name (codes "rules") then Some PolicyRule else None
part PolicyRule name = if bytes_eq name (codes "resources") then Some GroupResources else None
part GroupResources name = None
part ServiceList name = if bytes_eq name (codes "items") then Some Service else None
part Service name =
    if bytes_eq name (codes "spec") then Some ServiceSpec
    else if bytes_eq name (codes "status") then Some ServiceStatus
    else None
part ServiceSpec name = if bytes_eq name (codes "service") then Some ServiceReference else None
part ServiceReference name = None
part ServiceStatus name = if bytes_eq name (codes "conditions") then Some ServiceCondition else None
part ServiceCondition name = None

abbrev pub part_or_unknown : Option Kind → Member
part_or_unknown None = Unknown
part_or_unknown (Some kind) = Part kind

-- what is known of the member of that name of an object of that type
abbrev pub member_of : Kind → List ℕ → Member
member_of kind name = if has_leaf kind name then Leaf else part_or_unknown (part kind name)
