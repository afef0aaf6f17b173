-- At which stages a request has events, and where these show a body (Kubernetes, "Auditing").
use Rattle.std.specs.Prelude.{Bool, true, false, not, ◌&&◌, List, [], ◌∷◌, if◌then◌else◌}
use Rattle.front_base.specs.Info.{is_long_running}
use Rattle.front_base.specs.declared.info.Info.{Info}
use Rattle.front_base.specs.declared.level.Level.{Level}
use Rattle.front_base.specs.declared.level.Level.TheVariants.{None, Metadata, Request, RequestResponse}
use Rattle.front_base.specs.declared.stage.Stage.{Stage}
use Rattle.front_base.specs.declared.stage.Stage.TheVariants.{RequestReceived, ResponseStarted, ResponseComplete}
use Rattle.stage_event.specs.declared.show.Show.{Show}
use Rattle.stage_event.specs.declared.show.Show.TheVariants.{Nothing, Whole, Pruned}

-- the stages in the life of a request, in order
abbrev pub stages : Info → List Stage
stages info =
    if is_long_running info then RequestReceived ∷ ResponseStarted ∷ ResponseComplete ∷ []
    else RequestReceived ∷ ResponseComplete ∷ []

-- the request's body is shown from the level Request on, where the request names a resource
abbrev pub request_due : Level → Info → Bool
request_due None info = false
request_due Metadata info = false
request_due Request info = info.resource_request
request_due RequestResponse info = info.resource_request

-- the reply's body is shown at RequestResponse, where the request names a resource and doesn't run long
abbrev pub reply_due : Level → Info → Bool
reply_due None info = false
reply_due Metadata info = false
reply_due Request info = false
reply_due RequestResponse info = info.resource_request && not (is_long_running info)

-- what is shown of a body, by whether it is shown and whether managed fields are omitted
abbrev pub shown_as : Bool → Bool → Show
shown_as false omit = Nothing
shown_as true false = Whole
shown_as true true = Pruned

-- somebody has to look at the body
abbrev pub is_due : Show → Bool
is_due Nothing = false
is_due Whole = true
is_due Pruned = true

-- what is shown of the bodies of a request
abbrev pub request_show : Level → Bool → Info → Show
request_show level omit info = shown_as (request_due level info) omit

abbrev pub reply_show : Level → Bool → Info → Show
reply_show level omit info = shown_as (reply_due level info) omit
