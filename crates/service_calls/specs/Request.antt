-- The request by which a server of APIs is asked for the resources of a group version (Kubernetes, "API groups and versioning"; who asks stands
-- in X-Remote-User and X-Remote-Group: "Configure the Aggregation Layer").
use Rattle.std.specs.Prelude.{ℕ, List, [], ◌∷◌, ◌++◌, codes, Option, Some, None}
use Rattle.apiservice_rows.specs.Row.{Row}
use Rattle.apiservice_rows.specs.declared.service.ServiceRef.{ServiceRef}
use Rattle.forward_link.specs.Forwarded.{host_of}
use Rattle.forward_link.specs.declared.target.Target.{Target}
use Rattle.forward_link.specs.declared.target.Target.TheVariants.{Service, Delegate}
use Rattle.front_base.specs.declared.address.Address.{Address}
use Rattle.http_head.specs.Written.{named, request_text}
use Rattle.http_head.specs.declared.header.Header.{Header}
use Rattle.http_head.specs.declared.request.Head.{Head}

-- where its resources are listed
abbrev pub path_of : List ℕ → List ℕ → List ℕ
path_of [] version = codes "/api/v1"
path_of (g ∷ group) version = codes "/apis/" ++ ((g ∷ group) ++ 47 ∷ version)

-- whom it is sent to: the service of a row, or the delegate
abbrev pub target_of : Option ServiceRef → Address → Target
target_of (Some service) to = Service service to
target_of None to = Delegate to

abbrev pub headers_of : List ℕ → List Header
headers_of host =
    named (codes "Host") host
    ∷ named (codes "Accept") (codes "application/json")
    ∷ named (codes "X-Remote-User") (codes "system:aggregator")
    ∷ named (codes "X-Remote-Group") (codes "system:masters")
    ∷ named (codes "Connection") (codes "close")
    ∷ []

abbrev pub request_of : Row → Address → Head
request_of row to = record {
  method = codes "GET";
  target = path_of row.group row.version;
  minor = 1;
  headers = headers_of (host_of (target_of row.service to));
}

-- its bytes: it has no body
abbrev pub request_bytes : Row → Address → List ℕ
request_bytes row to = request_text (request_of row to)
