-- Whether an event agrees with the request that it tells of, and with a policy (Kubernetes, "Auditing").
use Rattle.std.specs.Prelude.{◌≡◌, Bool, true, false, not, ◌&&◌, ◌||◌, Option, Some, None, bytes_eq, codes, is_some, is_none, if◌then◌else◌}
use Rattle.std.specs.List.{list_any}
use Rattle.audit_core.specs.Owed.{omits}
use Rattle.audit_reader.specs.Plain.{no_body}
use Rattle.front_base.specs.declared.info.Info.{Info}
use Rattle.front_base.specs.declared.stage.Stage.{Stage}
use Rattle.front_base.specs.declared.stage.Stage.TheVariants.{RequestReceived, ResponseStarted, ResponseComplete, Panic}
use Rattle.front_base.specs.declared.user.User.{User}
use Rattle.policy_rules.specs.Policy.{first}
use Rattle.policy_rules.specs.declared.decision.Decision.{Decision}
use Rattle.policy_rules.specs.declared.policy.Policy.{Policy}
use Rattle.request_info.specs.Request.{audit_info}
use Rattle.stage_event.specs.Due.{request_due, reply_due}
use Rattle.stage_event.specs.Events.{is_empty, object_ref}
use Rattle.stage_event.specs.declared.event.Event.{Event}
use Rattle.stage_event.specs.declared.event.ObjectRef.{ObjectRef}
use Rattle.token_users.specs.Act.{has_group, masters}
use Rattle.token_users.specs.Carried.{has_blank_ends}
use Rattle.token_users.specs.Who.{authenticated}

-- what the request asked for: a line has its target and its verb, and the method decides nothing else
abbrev pub info_of : Event → Info
info_of e = record (audit_info (codes "GET") e.target) { verb = e.verb }

-- the reply has started
abbrev pub is_answered : Stage → Bool
is_answered RequestReceived = false
is_answered ResponseStarted = true
is_answered ResponseComplete = true
is_answered Panic = true

abbrev pub is_complete : Stage → Bool
is_complete RequestReceived = false
is_complete ResponseStarted = false
is_complete ResponseComplete = true
is_complete Panic = false

-- the status stands once the reply has started, and then always
abbrev pub status_in_place : Event → Bool
status_in_place e = if is_answered e.stage then is_some e.code else is_none e.code

-- the request's body stands only where the level shows it, once the reply has started
abbrev pub request_in_place : Info → Event → Bool
request_in_place info e = no_body e.request_object || (is_answered e.stage && request_due e.level info)

-- the reply's body stands only where the level shows it, once the reply is complete
abbrev pub response_in_place : Info → Event → Bool
response_in_place info e = no_body e.response_object || (is_complete e.stage && reply_due e.level info)

-- bodies were taken out only where one may stand
abbrev pub truncated_in_place : Info → Event → Bool
truncated_in_place info e =
    not e.truncated || ((is_answered e.stage && request_due e.level info) || (is_complete e.stage && reply_due e.level info))

-- neither the name nor a group begins or ends with a blank, which no header carries
abbrev pub user_in_place : User → Bool
user_in_place user = not (has_blank_ends user.name || list_any has_blank_ends user.groups)

-- somebody with a name and without an ID, whom the front door knows
abbrev pub is_acted_as : User → Bool
is_acted_as user = not (is_empty user.name) && (is_empty user.uid && has_group authenticated user.groups)

-- only a member of `system:masters` acts as another user
abbrev pub acting_in_place : User → Option User → Bool
acting_in_place user None = true
acting_in_place user (Some other) = has_group masters user.groups && is_acted_as other

-- a request for this may have such an event: the object that it names is the request's, the status and the bodies stand where
-- they may, as does the note that bodies were taken out, and its users are some that a request may have
pub record IsInPlace (info : Info) (e : Event) : Type 0 where
  pub object_ref : e.object_ref ≡ object_ref info
  pub status : status_in_place e ≡ true
  pub request : request_in_place info e ≡ true
  pub response : response_in_place info e ≡ true
  pub truncated : truncated_in_place info e ≡ true
  pub user : user_in_place e.user ≡ true
  pub acting : acting_in_place e.user e.impersonated ≡ true

-- the level is the one that was decided, and the stage is not left out
pub record IsDecided (decision : Decision) (e : Event) : Type 0 where
  pub level : decision.level ≡ e.level
  pub stage : omits decision.omit e.stage ≡ false

-- how the policy decides on the request
abbrev pub decision_on : Policy → Info → Event → Decision
decision_on policy info e = first policy e.user info

-- ---- as tests, for private clauses

abbrev pub is_same_reference : ObjectRef → ObjectRef → Bool
is_same_reference a b =
    bytes_eq a.resource b.resource
    && bytes_eq a.namespace b.namespace
    && bytes_eq a.name b.name
    && bytes_eq a.group b.group
    && bytes_eq a.version b.version
    && bytes_eq a.subresource b.subresource

abbrev pub is_same_object : Option ObjectRef → Option ObjectRef → Bool
is_same_object None None = true
is_same_object None (Some b) = false
is_same_object (Some a) None = false
is_same_object (Some a) (Some b) = is_same_reference a b

abbrev pub bodies_in_place : Info → Event → Bool
bodies_in_place info e = request_in_place info e && (response_in_place info e && truncated_in_place info e)

abbrev pub users_in_place : Event → Bool
users_in_place e = user_in_place e.user && acting_in_place e.user e.impersonated

abbrev pub is_in_place : Info → Event → Bool
is_in_place info e =
    is_same_object e.object_ref (object_ref info)
    && (status_in_place e
    && (bodies_in_place info e && users_in_place e))
