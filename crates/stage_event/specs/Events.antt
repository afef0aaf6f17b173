-- The event of a request at a stage (Kubernetes, `audit.k8s.io/v1`, Event).
use Rattle.std.specs.Prelude.{ℕ, Bool, true, false, not, ◌&&◌, List, [], ◌∷◌, Option, Some, None, if◌then◌else◌}
use Rattle.front_base.specs.declared.info.Info.{Info}
use Rattle.front_base.specs.declared.level.Level.{Level}
use Rattle.front_base.specs.declared.stage.Stage.{Stage}
use Rattle.front_base.specs.declared.stage.Stage.TheVariants.{RequestReceived, ResponseStarted, ResponseComplete, Panic}
use Rattle.stage_event.specs.Views.{view}
use Rattle.stage_event.specs.declared.event.Event.{Event}
use Rattle.stage_event.specs.declared.event.ObjectRef.{ObjectRef}
use Rattle.stage_event.specs.declared.facts.Facts.{Facts}
use Rattle.stage_event.specs.declared.facts.Kept.{Kept}
use Rattle.stage_event.specs.declared.facts.Kept.TheVariants.{NotAsked, Compact, NotJson, Over, CutOff}

abbrev pub is_empty : List ℕ → Bool
is_empty [] = true
is_empty (c ∷ cs) = false

abbrev pub reference : Info → ObjectRef
reference info =
    record {
      resource = info.resource;
      namespace = info.namespace;
      name = info.name;
      group = info.group;
      version = info.version;
      subresource = info.subresource;
    }

abbrev pub is_named : ObjectRef → Bool
is_named object =
    not
    (is_empty object.resource
    && is_empty object.namespace
    && is_empty object.name
    && is_empty object.group
    && is_empty object.version
    && is_empty object.subresource)

-- the object that a request names, where it names one
abbrev pub object_ref : Info → Option ObjectRef
object_ref info =
    if info.resource_request && is_named (reference info) then Some (reference info) else None

-- only compact JSON is shown
abbrev pub object : Kept → Option (List ℕ)
object (Compact text) = Some text
object NotAsked = None
object NotJson = None
object Over = None
object CutOff = None

-- nothing is known of a reply when its request is received
abbrev pub code : Stage → ℕ → Option ℕ
code RequestReceived status = None
code ResponseStarted status = Some status
code ResponseComplete status = Some status
code Panic status = Some status

-- the request's body is shown from the stage on at which the reply starts
abbrev pub request_object : Stage → Kept → Option (List ℕ)
request_object RequestReceived request = None
request_object ResponseStarted request = object request
request_object ResponseComplete request = object request
request_object Panic request = object request

-- the reply's body is shown when it is complete
abbrev pub response_object : Stage → Kept → Option (List ℕ)
response_object RequestReceived reply = None
response_object ResponseStarted reply = None
response_object ResponseComplete reply = object reply
response_object Panic reply = None

-- when the stage was reached
abbrev pub moment : Stage → ℕ → ℕ → ℕ → ℕ
moment RequestReceived received started complete = received
moment ResponseStarted received started complete = started
moment ResponseComplete received started complete = complete
moment Panic received started complete = complete

-- the event that facts make at a stage, whatever the level shows of them
abbrev pub event_of : Stage → Level → Facts → Event
event_of stage level facts =
    record {
      level = level;
      id = facts.id;
      stage = stage;
      target = facts.target;
      verb = facts.info.verb;
      user = facts.user;
      impersonated = facts.acting;
      peer = facts.peer;
      agent = facts.agent;
      object_ref = object_ref facts.info;
      code = code stage facts.status;
      request_object = request_object stage facts.request;
      response_object = response_object stage facts.reply;
      received = facts.received;
      at = moment stage facts.received facts.started facts.complete;
      truncated = false;
    }

-- an event is made of what its level records and of nothing else
unfoldable pub event : Stage → Level → Facts → Event
event stage level facts = event_of stage level (view level facts)
