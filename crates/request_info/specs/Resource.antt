-- What the path of a resource names (Kubernetes, "API concepts": resource URIs, and the API server's type RequestInfo).
use Rattle.std.specs.Prelude.{ℕ, ◌||◌, Bool, List, [], ◌∷◌, get_or, Option, Some, None, codes, bytes_eq, if◌then◌else◌}
use Rattle.request_info.specs.Parts.{texts_of}
use Rattle.request_info.specs.declared.resource.Api as code_api
use Rattle.request_info.specs.declared.resource.Named as code_named

-- the text at a place, or none
abbrev pub part : ℕ → List (List ℕ) → List ℕ
part i parts = get_or parts i []

-- a group and a version of the API, and the parts after them
pub record Api : Type 0 where
  pub group : List ℕ
  pub version : List ℕ
  pub parts : List (List ℕ)

-- `api/VERSION/PART..`: the core group has no name
abbrev pub core_api : List (List ℕ) → Option Api
core_api (version ∷ first ∷ parts) = Some (record { group = []; version = version; parts = first ∷ parts })
core_api _ = None

-- `apis/GROUP/VERSION/PART..`
abbrev pub group_api : List (List ℕ) → Option Api
group_api (group ∷ version ∷ first ∷ parts) = Some (record { group = group; version = version; parts = first ∷ parts })
group_api _ = None

-- the API that a path is in, and what it has after it; every other path is no resource's
abbrev pub api_of : List (List ℕ) → Option Api
api_of [] = None
api_of (root ∷ parts) =
    if bytes_eq root (codes "api") then core_api parts
    else if bytes_eq root (codes "apis") then group_api parts
    else None

-- `watch` and `proxy` may stand before a resource, and are verbs there
abbrev pub is_special_verb : List ℕ → Bool
is_special_verb text = bytes_eq text (codes "watch") || bytes_eq text (codes "proxy")

-- the parts without such a verb
abbrev pub behind_verb : List (List ℕ) → List (List ℕ)
behind_verb [] = []
behind_verb (first ∷ parts) = if is_special_verb first then parts else first ∷ parts

-- what a path names
pub record Named : Type 0 where
  pub namespace : List ℕ
  pub resource : List ℕ
  pub name : List ℕ
  pub subresource : List ℕ

-- these four
abbrev pub names : List ℕ → List ℕ → List ℕ → List ℕ → Named
names namespace resource name subresource =
    record { namespace = namespace; resource = resource; name = name; subresource = subresource }

-- `RESOURCE/NAME/SUBRESOURCE`, as far as it goes
abbrev pub object_in : List ℕ → List (List ℕ) → Named
object_in namespace parts = names namespace (part 0 parts) (part 1 parts) (part 2 parts)

-- the subresources that a namespace has itself
abbrev pub is_of_namespaces : List ℕ → Bool
is_of_namespaces text = bytes_eq text (codes "status") || bytes_eq text (codes "finalize")

-- what parts that begin with `namespaces/NAMESPACE` name, by what stands after: the namespace itself, or a subresource
-- of it, or a resource in it
abbrev pub in_namespace : List ℕ → List (List ℕ) → List (List ℕ) → Named
in_namespace namespace whole [] = object_in namespace whole
in_namespace namespace whole (third ∷ parts) =
    if is_of_namespaces third then object_in namespace whole else object_in namespace (third ∷ parts)

-- what the parts name, in a namespace or in the cluster
abbrev pub named_by : List (List ℕ) → Named
named_by (first ∷ second ∷ parts) =
    if bytes_eq first (codes "namespaces") then in_namespace second (first ∷ second ∷ parts) parts
    else object_in [] (first ∷ second ∷ parts)
named_by parts = object_in [] parts

-- what values of the code say
abbrev pub api_view : code_api.Api → Api
api_view api = record { group = api.group.now; version = api.version.now; parts = texts_of api.parts.now }

abbrev pub named_view : code_named.Named → Named
named_view named = names named.namespace.now named.resource.now named.name.now named.subresource.now
