-- The events that have lines.
use Rattle.std.specs.Prelude.{◌≡◌, ℕ, ◌<◌, ◌^◌, true, false, not, ◌&&◌, ◌||◌, List, [], ◌∷◌, Bool, Option, Some, None, Result, Ok, Err, IfSome}
use Rattle.std.specs.List.{AllByRecursion}
use Rattle.std.specs.Str.{is_utf8}
use Rattle.front_base.specs.declared.user.User.{User}
use Rattle.stage_event.specs.declared.event.Event.{Event}
use Rattle.stage_event.specs.declared.event.ObjectRef.{ObjectRef}
use Rattle.stage_event.specs.Events.{is_empty, is_named}
use Rattle.front_base.specs.declared.level.Level.{Level}
use Rattle.front_base.specs.declared.level.Level.TheVariants as levels
use Rattle.front_base.specs.declared.moment.TheConstants.{MOMENT_END}
use Rattle.front_base.specs.declared.stage.Stage.{Stage}
use Rattle.front_base.specs.declared.stage.Stage.TheVariants as stages
use Rattle.json_prune.specs.Mend.{mended}
use Rattle.json_span.specs.Value.{Value, StandsFor, flat}
use Rattle.event_members.specs.Ranges.{IsUtf8, IsUser, IsReference, IsPeer}
use Rattle.event_members.specs.declared.fault.EventFault.{EventFault}
use Rattle.event_members.specs.declared.fault.EventFault.TheVariants.{NotAnEvent, NoMemory}

-- the bytes are a JSON text without white space, and with no escape of half a surrogate pair
abbrev pub IsKeptJson : List ℕ → Type 0
IsKeptJson body = (v : Value) × StandsFor body v × (body ≡ flat v) × (mended v ≡ v)

abbrev pub IsBody : Option (List ℕ) → Type 0
IsBody None = Unit {0}
IsBody (Some body) = IsKeptJson body

-- a test was answered, unless memory ran out
abbrev pub Tells : Result Bool EventFault → Type 0 → Type 0
Tells (Ok true) P = P
Tells (Ok false) P = P → ⊥
Tells (Err NoMemory) P = Unit {0}
Tells (Err NotAnEvent) P = ⊥

-- who is named has a name, an ID or a group
abbrev pub no_groups : List (List ℕ) → Bool
no_groups [] = true
no_groups (g ∷ gs) = false

abbrev pub is_somebody : User → Bool
is_somebody user = not (is_empty user.name && (is_empty user.uid && no_groups user.groups))

abbrev pub somebody_or_none : Option User → Bool
somebody_or_none None = true
somebody_or_none (Some user) = is_somebody user

abbrev pub named_or_none : Option ObjectRef → Bool
named_or_none None = true
named_or_none (Some object) = is_named object

abbrev pub is_level : Level → Bool
is_level levels.None = false
is_level levels.Metadata = true
is_level levels.Request = true
is_level levels.RequestResponse = true

abbrev pub is_stage : Stage → Bool
is_stage stages.RequestReceived = true
is_stage stages.ResponseStarted = true
is_stage stages.ResponseComplete = true
is_stage stages.Panic = false

abbrev pub no_body : Option (List ℕ) → Bool
no_body None = true
no_body (Some body) = false

-- what was stripped has no objects
abbrev pub stripped_or_whole : Event → Bool
stripped_or_whole e = not e.truncated || (no_body e.request_object && no_body e.response_object)

-- it has a level and a stage that are recorded, what may be left out is left out or not empty, and the objects are
-- compact JSON without half a surrogate pair
pub record IsPlain (e : Event) : Type 0 where
  pub level : is_level e.level ≡ true
  pub stage : is_stage e.stage ≡ true
  pub impersonated : somebody_or_none e.impersonated ≡ true
  pub object_ref : named_or_none e.object_ref ≡ true
  pub whole : stripped_or_whole e ≡ true
  pub request : IsBody e.request_object
  pub response : IsBody e.response_object

-- what every value of the type meets
pub record Fits (e : Event) : Type 0 where
  pub boot : e.id.boot < 2 ^ 64
  pub bay : e.id.bay < 2 ^ 16
  pub number : e.id.number < 2 ^ 48
  pub target : IsUtf8 e.target
  pub verb : IsUtf8 e.verb
  pub user : IsUser e.user
  pub impersonated : IfSome e.impersonated IsUser
  pub peer : IsPeer e.peer
  pub agent : IsUtf8 e.agent
  pub object_ref : IfSome e.object_ref IsReference
  pub code : IfSome e.code (λ n. n < 65536)
  pub received : e.received < MOMENT_END
  pub at : e.at < MOMENT_END

-- what was read is that event, unless memory ran out
abbrev pub Reads : Result Event EventFault → Event → Type 0
Reads (Ok read) e = read ≡ e
Reads (Err NoMemory) e = Unit {0}
Reads (Err NotAnEvent) e = ⊥
