-- The kinds of requests of a rehearsal, and what each is to be answered (Kubernetes, "Auditing" and "API Aggregation Layer").
use Rattle.std.specs.Prelude.{ℕ, ◌+◌, ◌%◌, ◌==◌, if◌then◌else◌, Bool, true, false, List, [], ◌∷◌, codes}
use Rattle.front_base.specs.declared.level.Level.{Level}
use Rattle.front_base.specs.declared.level.Level.TheVariants as level
use Rattle.front_base.specs.declared.stage.Stage.{Stage}
use Rattle.front_base.specs.declared.stage.Stage.TheVariants.{RequestReceived, ResponseStarted, ResponseComplete}
use Rattle.rehearse_plan.specs.declared.kind.Kind.{Kind}
use Rattle.rehearse_plan.specs.declared.kind.Kind.TheVariants.{Pods, Create, Health, Groups, Unknown, Secret, Watch, Update}

abbrev pub kind_by : ℕ → Kind
kind_by rest =
    if rest == 0 then Pods
    else if rest == 1 then Create
    else if rest == 2 then Health
    else if rest == 3 then Groups
    else if rest == 4 then Unknown
    else if rest == 5 then Secret
    else if rest == 6 then Watch
    else Update

-- the kinds follow one another
abbrev pub kind_at : ℕ → ℕ → Kind
kind_at start number = kind_by ((start + number) % 8)

abbrev pub method_of : Kind → List ℕ
method_of Create = codes "POST"
method_of Update = codes "PUT"
method_of _ = codes "GET"

abbrev pub has_body : Kind → Bool
has_body Create = true
has_body Update = true
has_body _ = false

-- it goes to the delegate; the others are answered here, or by nobody
abbrev pub is_proxied : Kind → Bool
is_proxied Pods = true
is_proxied Create = true
is_proxied Secret = true
is_proxied Update = true
is_proxied _ = false

abbrev pub status_of : Kind → ℕ
status_of Create = 201
status_of Unknown = 404
status_of Watch = 503
status_of _ = 200

-- by a policy that records no secrets, requests and replies of updates in the group metrics.example, requests alone of all else
-- in it, and metadata of every other request
abbrev pub level_of : Kind → Level
level_of Secret = level.None
level_of Create = level.Request
level_of Update = level.RequestResponse
level_of _ = level.Metadata

-- a watch runs long, so that its reply has a start of its own
abbrev pub stages_of : Kind → List Stage
stages_of Secret = []
stages_of Watch = RequestReceived ∷ ResponseStarted ∷ ResponseComplete ∷ []
stages_of _ = RequestReceived ∷ ResponseComplete ∷ []
