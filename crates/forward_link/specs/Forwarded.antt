-- The head of a request as a backend gets it (RFC 9110, section 7.6; Kubernetes, "Configure the Aggregation Layer": the user
-- stands in X-Remote-User and X-Remote-Group).
use Rattle.std.specs.Prelude.{ℕ, Bool, not, ◌&&◌, ◌||◌, List, [], ◌∷◌, ◌++◌, map, filter, get_or, codes, decimal, if◌then◌else◌, Option, None, Some}
use Rattle.std.specs.List.{flat_map}
use Rattle.front_base.specs.AuditId.{AuditId, audit_id_text}
use Rattle.front_base.specs.declared.address.Address.{Address}
use Rattle.front_base.specs.declared.user.User.{User}
use Rattle.http_head.specs.Name.{name_begins}
use Rattle.http_head.specs.Written.{named, request_text}
use Rattle.http_head.specs.declared.header.Header.{Header}
use Rattle.http_head.specs.declared.request.Head.{Head}
pub use Rattle.forward_link.specs.Dashed.{dash, dashed, dashed_names}
pub use Rattle.forward_link.specs.Hop.{is_hop, is_one_of}
use Rattle.forward_link.specs.declared.target.Target.{Target}
use Rattle.forward_link.specs.declared.target.Target.TheVariants.{Service, Delegate}

-- headers that are written anew for the backend, or not at all: the host, the length, the audit ID; Expect, which is not
-- answered here; and Authorization, whose token is the client's alone
abbrev pub own_names : List (List ℕ)
own_names =
    codes "host" ∷ codes "content-length" ∷ codes "expect" ∷ codes "authorization" ∷ codes "audit-id" ∷ []

-- it says who asks, or for whom, which only the server here says; also to those who read `_` as `-`
abbrev pub is_identity : Header → Bool
is_identity header =
    name_begins (codes "x-remote-") (dashed header.name) || name_begins (codes "impersonate-") (dashed header.name)

-- a header of the client's passes
abbrev pub passes : List Header → Header → Bool
passes headers header = not (is_hop headers header) && (not (is_one_of own_names header) && not (is_identity header))

-- one of the four numbers of an address
abbrev pub number_of : Address → ℕ → ℕ
number_of address k = get_or address.ip k 0

-- an address: its four numbers with dots between, a colon and the port
abbrev pub address_text : Address → List ℕ
address_text address =
    decimal (number_of address 0) ++ (codes "." ++ (decimal (number_of address 1) ++ (codes "."
    ++ (decimal (number_of address 2) ++ (codes "." ++ (decimal (number_of address 3)
    ++ (codes ":" ++ decimal address.port)))))))

abbrev pub host_of : Target → List ℕ
host_of (Service to address) = to.name ++ (codes "." ++ (to.namespace ++ (codes ".svc:" ++ decimal to.port)))
host_of (Delegate address) = address_text address

abbrev pub length_header : Option ℕ → List Header
length_header None = []
length_header (Some length) = named (codes "Content-Length") (decimal length) ∷ []

-- the client's headers that pass, in their order
abbrev pub passing : List Header → List Header
passing headers = filter (passes headers) headers

-- the user, the groups, the audit ID and the frame
abbrev pub own_headers : User → AuditId → Option ℕ → List Header
own_headers user id length =
    named (codes "X-Remote-User") user.name
    ∷ (map (named (codes "X-Remote-Group")) user.groups
    ++ (named (codes "Audit-ID") (audit_id_text id)
    ∷ (length_header length ++ named (codes "Connection") (codes "close") ∷ [])))

abbrev pub forwarded_headers : List Header → User → Target → AuditId → Option ℕ → List Header
forwarded_headers headers user target id length =
    named (codes "Host") (host_of target) ∷ (passing headers ++ own_headers user id length)

-- the client's method and target, and those headers
abbrev pub forwarded : Head → User → Target → AuditId → Option ℕ → Head
forwarded head user target id length = record {
  method = head.method;
  target = head.target;
  minor = 1;
  headers = forwarded_headers head.headers user target id length;
}

abbrev pub forwarded_head : Head → User → Target → AuditId → Option ℕ → List ℕ
forwarded_head head user target id length = request_text (forwarded head user target id length)

-- ---- what a reader of a head looks for

-- the values of all headers whose names begin with `X-Remote-`, in their order
abbrev pub remote_values : List Header → List (List ℕ)
remote_values headers =
    flat_map (λ header. if name_begins (codes "X-Remote-") header.name then header.value ∷ [] else []) headers
