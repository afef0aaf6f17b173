-- The requests of a rehearsal as they are sent (RFC 9112, sections 3 and 6).
use Rattle.std.specs.Prelude.{ℕ, zero, suc, ◌+◌, ◌*◌, ◌-◌, ◌/◌, ◌%◌, if◌then◌else◌, List, [], ◌∷◌, ◌++◌, length, codes, decimal}
use Rattle.http_head.specs.Written.{named, request_line, header_lines}
use Rattle.rehearse_plan.specs.Kinds.{kind_at, has_body, method_of}
use Rattle.rehearse_plan.specs.declared.kind.Kind.{Kind}
use Rattle.rehearse_plan.specs.declared.kind.Kind.TheVariants.{Pods, Create, Health, Groups, Unknown, Secret, Watch, Update}

abbrev pub target_of : Kind → ℕ → List ℕ
target_of Pods number = (codes "/api/v1/namespaces/n" ++ decimal (number % 10)) ++ codes "/pods"
target_of Create number = codes "/apis/metrics.example/v1/namespaces/a/samples"
target_of Health number = codes "/healthz"
target_of Groups number = codes "/apis"
target_of Unknown number = codes "/apis/none.example/v1/things"
target_of Secret number = codes "/api/v1/namespaces/a/secrets/s"
target_of Watch number = codes "/apis/down.example/v1/things?watch=true"
target_of Update number = codes "/apis/metrics.example/v1/namespaces/a/samples/s"

-- an object with the number
abbrev pub body_of : Kind → ℕ → List ℕ
body_of kind number = if has_body kind then (codes "{\"i\":" ++ decimal number) ++ codes "}" else []

abbrev pub length_lines : Kind → ℕ → List ℕ
length_lines kind size = if has_body kind then header_lines (named (codes "Content-Length") (decimal size) ∷ []) else []

-- the head, with its host and the length of the body where there is one, and the body
unfoldable pub request_at : Kind → ℕ → List ℕ
request_at kind number =
    request_line (method_of kind) (target_of kind number)
    ++ (header_lines (named (codes "Host") (codes "front") ∷ [])
    ++ (length_lines kind (length (body_of kind number))
    ++ (codes "\r\n" ++ body_of kind number)))

-- ---- the bays

-- how many of so many requests a bay has, where they go round so many bays
abbrev pub share : ℕ → ℕ → ℕ → ℕ
share count bays bay = (count + bays - 1 - bay) / bays

-- the number of a bay's request, by how many it had before
abbrev pub number_of : ℕ → ℕ → ℕ → ℕ
number_of bays bay turn = bay + bays * turn

-- the first requests of a bay, one after another
abbrev pub inputs : ℕ → ℕ → ℕ → ℕ → List ℕ
inputs start bays bay zero = []
inputs start bays bay (suc turn) =
    inputs start bays bay turn ++ request_at (kind_at start (number_of bays bay turn)) (number_of bays bay turn)

-- all of a bay
abbrev pub bay_input : ℕ → ℕ → ℕ → ℕ → List ℕ
bay_input start count bays bay = inputs start bays bay (share count bays bay)
