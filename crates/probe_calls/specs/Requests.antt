-- The requests of a prober to a front door (RFC 9112, sections 3 and 5; RFC 7396; RFC 6750, section 2.1).
use Rattle.std.specs.Prelude.{ℕ, Bool, if◌then◌else◌, List, [], ◌∷◌, ◌++◌, length, Option, Some, None, codes, decimal}
use Rattle.apiservice_rows.specs.Row.{Row}
use Rattle.apiservice_rows.specs.declared.service.ServiceRef.{ServiceRef}
use Rattle.avail_probe.specs.Status.{Report, patch_text}
use Rattle.forward_link.specs.Forwarded.{address_text}
use Rattle.front_base.specs.Cut.{cut_at}
use Rattle.front_base.specs.Moment.{moment_text}
use Rattle.front_base.specs.declared.address.Address.{Address}
use Rattle.http_head.specs.Written.{named, request_text}
use Rattle.http_head.specs.declared.header.Header.{Header}
use Rattle.service_calls.specs.Request.{path_of}

-- ---- what is told

-- where a service lists the resources of a group version
abbrev pub url_in : Option ServiceRef → List ℕ → List ℕ
url_in None path = path
url_in (Some service) path =
    codes "http://" ++ (service.name ++ (codes "." ++ (service.namespace ++ (codes ".svc:" ++ (decimal service.port ++ path)))))

abbrev pub url_of : Row → List ℕ
url_of row = url_in row.service (path_of row.group row.version)

-- in the words of kube-aggregator
abbrev pub message_of : Row → Bool → List ℕ
message_of row up = if up then codes "all checks passed" else codes "failing or missing response from " ++ url_of row

abbrev pub seconds_in : List ℕ → Option (List ℕ × List ℕ) → List ℕ
seconds_in whole None = whole
seconds_in whole (Some parts) = parts.0 ++ codes "Z"

-- a moment's text without the fraction of its second
abbrev pub seconds_text : ℕ → List ℕ
seconds_text moment = seconds_in (moment_text moment) (cut_at 46 (moment_text moment))

abbrev pub report_of : Row → Bool → ℕ → Report
report_of row up moment = record { up = up; message = message_of row up; since = seconds_text moment }

-- ---- how

abbrev pub token_headers : Option (List ℕ) → List Header
token_headers None = []
token_headers (Some token) = named (codes "Authorization") (codes "Bearer " ++ token) ∷ []

abbrev pub patch_headers : Address → Option (List ℕ) → ℕ → List Header
patch_headers front token size =
    named (codes "Host") (address_text front)
    ∷ (token_headers token
    ++ (named (codes "Content-Type") (codes "application/merge-patch+json") ∷ named (codes "Content-Length") (decimal size)
    ∷ named (codes "Connection") (codes "close") ∷ []))

abbrev pub object_path : List ℕ → List ℕ
object_path name = codes "/apis/apiregistration.k8s.io/v1/apiservices/" ++ name

-- the head of a request that patches an object of that name by so many bytes
unfoldable pub patch_head : Address → Option (List ℕ) → List ℕ → ℕ → List ℕ
patch_head front token name size = request_text (record {
  method = codes "PATCH";
  target = object_path name;
  minor = 1;
  headers = patch_headers front token size;
})

-- the request that tells a front door that a row's service is available since that moment, or that it isn't
unfoldable pub patch_request : Address → Option (List ℕ) → Row → Bool → ℕ → List ℕ
patch_request front token row up moment =
    patch_head front token row.name (length (patch_text row (report_of row up moment))) ++ patch_text row (report_of row up moment)

-- ---- which APIServices there are

abbrev pub list_headers : Address → Option (List ℕ) → List Header
list_headers front token =
    named (codes "Host") (address_text front)
    ∷ (token_headers token ++ (named (codes "Accept") (codes "application/json") ∷ named (codes "Connection") (codes "close") ∷ []))

-- the request that asks a front door for the list of its APIServices
unfoldable pub rows_request : Address → Option (List ℕ) → List ℕ
rows_request front token = request_text (record {
  method = codes "GET";
  target = codes "/apis/apiregistration.k8s.io/v1/apiservices";
  minor = 1;
  headers = list_headers front token;
})
