-- What a request asks for (Kubernetes, the API server's type RequestInfo; "Authorization": request verbs).
use Rattle.std.specs.Prelude.{◌≡◌, ℕ, ◌==◌, true, false, List, [], length, map, Option, Some, None, Result, Ok, Err, codes, bytes_eq, if◌then◌else◌}
use Rattle.std.specs.Char.{to_ascii_lowercase}
use Rattle.front_base.specs.declared.info.Info.{Info}
use Rattle.request_info.specs.Parts.{parts_of}
use Rattle.request_info.specs.Resource.{Api, Named, api_of, part, is_special_verb, behind_verb, named_by}
use Rattle.request_info.specs.Target.{path_of, query_of}
use Rattle.request_info.specs.Watch.{asks_watch}
use Rattle.request_info.specs.declared.fault.InfoFault.{InfoFault}
use Rattle.request_info.specs.declared.fault.InfoFault.TheVariants.{BadTarget, NoKind, NoMemory}

-- the verb of a method on one object
abbrev pub method_verb : List ℕ → List ℕ
method_verb method =
    if bytes_eq method (codes "POST") then codes "create"
    else if bytes_eq method (codes "PUT") then codes "update"
    else if bytes_eq method (codes "PATCH") then codes "patch"
    else if bytes_eq method (codes "DELETE") then codes "delete"
    else if bytes_eq method (codes "GET") then codes "get"
    else if bytes_eq method (codes "HEAD") then codes "get"
    else []

-- the verb of a path: a special one before the resource, or else the method's
abbrev pub verb_of : List ℕ → List (List ℕ) → List ℕ
verb_of method parts = if is_special_verb (part 0 parts) then part 0 parts else method_verb method

-- the same verb on all objects of a resource
abbrev pub collection_verb : List ℕ → List ℕ → List ℕ
collection_verb verb query =
    if bytes_eq verb (codes "get") then (if asks_watch query then codes "watch" else codes "list")
    else if bytes_eq verb (codes "delete") then codes "deletecollection"
    else verb

-- a request for a resource: its path, the API it is in, its verb, and what it names
abbrev pub resource_info : List ℕ → List ℕ → Api → List ℕ → Named → Info
resource_info query path api verb named = record {
  resource_request = true;
  path = path;
  verb = if length named.name == 0 then collection_verb verb query else verb;
  group = api.group;
  version = api.version;
  namespace = named.namespace;
  resource = named.resource;
  subresource = if bytes_eq verb (codes "proxy") then [] else named.subresource;
  name = named.name;
}

-- any other request: its path, and its method as verb
abbrev pub other_info : List ℕ → List ℕ → Info
other_info method path = record {
  resource_request = false;
  path = path;
  verb = map to_ascii_lowercase method;
  group = [];
  version = [];
  namespace = [];
  resource = [];
  subresource = [];
  name = [];
}

-- what a request for a decoded path asks for. A special verb with nothing after it names no kind
abbrev pub path_info : List ℕ → List ℕ → List ℕ → Option Api → Result Info InfoFault
path_info method query path None = Ok (other_info method path)
path_info method query path (Some api) =
    if length (behind_verb api.parts) == 0 then Err NoKind
    else Ok (resource_info query path api (verb_of method api.parts) (named_by (behind_verb api.parts)))

abbrev pub decoded_info : List ℕ → List ℕ → Option (List ℕ) → Result Info InfoFault
decoded_info method query None = Err BadTarget
decoded_info method query (Some path) = path_info method query path (api_of (parts_of path))

-- what a request asks for, by its method and its target
abbrev pub info_of : List ℕ → List ℕ → Result Info InfoFault
info_of method target = decoded_info method (query_of target) (path_of target)

-- an answer is this one, unless memory ran out
abbrev pub Answers : Result Info InfoFault → Result Info InfoFault → Type 0
Answers (Err NoMemory) stated = Unit {0}
Answers answer stated = answer ≡ stated

-- the path of a request that is recorded though its target is refused
abbrev pub refused_path : Option (List ℕ) → List ℕ
refused_path None = []
refused_path (Some path) = path

-- what is recorded of a request: what it asks for, or where that is refused, its method and its path
abbrev pub recorded : List ℕ → List ℕ → Result Info InfoFault → Info
recorded method target (Ok info) = info
recorded method target (Err fault) = other_info method (refused_path (path_of target))

abbrev pub audit_info : List ℕ → List ℕ → Info
audit_info method target = recorded method target (info_of method target)
