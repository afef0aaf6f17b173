-- Reading a whole event, part by part in the order of its members.
use Rattle.std.specs.Prelude.{ℕ, ◌==◌, length, if◌then◌else◌, Bool, true, false, List, codes, Option, Some, None}
use Rattle.front_base.specs.declared.level.Level.{Level}
use Rattle.front_base.specs.declared.stage.Stage.{Stage}
use Rattle.front_base.specs.declared.user.User.{User}
use Rattle.stage_event.specs.declared.event.Event.{Event}
use Rattle.stage_event.specs.declared.event.ObjectRef.{ObjectRef}
use Rattle.event_members.specs.TextMembers.{◌>>=◌, after_word, text_member_at, text_if_at, skip_comma, user_at, impersonated_at, object_ref_at}
use Rattle.event_members.specs.Values.{level_at, stage_at, peer_at, code_if_at}
use Rattle.stamp_text.specs.Dates.{if_moment}
use Rattle.stamp_text.specs.Ids.{audit_id_of}
use Rattle.audit_reader.specs.Bodies.{body_if_at}
use Rattle.audit_reader.specs.Moments.{micros_at}

unfoldable pub which_at : List ℕ → Option ((Level × List ℕ × Stage) × List ℕ)
which_at bytes = do
  rest ← after_word (codes "{\"kind\":\"Event\",\"apiVersion\":\"audit.k8s.io/v1\",") bytes
  level ← level_at rest
  id ← text_member_at (codes "\"auditID\":") level.1
  stage ← stage_at id.1
  Some ((level.0, id.0, stage.0), stage.1)

unfoldable pub user_member_at : List ℕ → Option (User × List ℕ)
user_member_at bytes = after_word (codes "\"user\":") bytes >>= user_at

unfoldable pub who_at : List ℕ → Option ((List ℕ × List ℕ × User × Option User) × List ℕ)
who_at bytes = do
  target ← text_member_at (codes "\"requestURI\":") bytes
  verb ← text_member_at (codes "\"verb\":") target.1
  user ← user_member_at verb.1
  impersonated ← impersonated_at user.1
  Some ((target.0, verb.0, user.0, impersonated.0), impersonated.1)

unfoldable pub from_at : List ℕ → Option ((List ℕ × List ℕ × Option ObjectRef) × List ℕ)
from_at bytes = do
  peer ← peer_at bytes
  agent ← text_if_at (codes "\"userAgent\":") peer.1
  object ← object_ref_at agent.1
  Some ((peer.0, agent.0, object.0), object.1)

unfoldable pub reply_at : List ℕ → Option ((Option ℕ × Option (List ℕ) × Option (List ℕ)) × List ℕ)
reply_at bytes = do
  code ← code_if_at bytes
  request ← body_if_at (codes "\"requestObject\":") code.1
  response ← body_if_at (codes "\"responseObject\":") request.1
  Some ((code.0, request.0, response.0), response.1)

abbrev pub truncated_if : Option (List ℕ) → List ℕ → Bool × List ℕ
truncated_if None bytes = (false, bytes)
truncated_if (Some rest) bytes = (true, skip_comma rest)

abbrev pub truncated_at : List ℕ → Bool × List ℕ
truncated_at bytes = truncated_if (after_word (codes "\"annotations\":{\"audit.k8s.io/truncated\":\"true\"}") bytes) bytes

unfoldable pub times_at : List ℕ → Option ((ℕ × ℕ × Bool) × List ℕ)
times_at bytes = do
  received ← micros_at (codes "\"requestReceivedTimestamp\":") bytes
  at ← micros_at (codes "\"stageTimestamp\":") received.1
  Some ((received.0, at.0, (truncated_at at.1).0), (truncated_at at.1).1)

unfoldable pub made_of : Level × List ℕ × Stage → List ℕ × List ℕ × User × Option User → List ℕ × List ℕ × Option ObjectRef → Option ℕ × Option (List ℕ) × Option (List ℕ) → ℕ × ℕ × Bool → Option Event
made_of which who from reply times = do
  id ← audit_id_of which.1
  received ← if_moment times.0
  at ← if_moment times.1
  Some (record {
    level = which.0;
    id = id;
    stage = which.2;
    target = who.0;
    verb = who.1;
    user = who.2;
    impersonated = who.3;
    peer = from.0;
    agent = from.1;
    object_ref = from.2;
    code = reply.0;
    request_object = reply.1;
    response_object = reply.2;
    received = received;
    at = at;
    truncated = times.2;
  })

-- the end of the text
unfoldable pub end_at : List ℕ → Option (List ℕ)
end_at bytes = after_word (codes "}") bytes >>= λ rest. if length rest == 0 then Some rest else None

-- the event that a text spells, if it is read as one
unfoldable pub event_at : List ℕ → Option Event
event_at bytes = do
  which ← which_at bytes
  who ← who_at which.1
  from ← from_at who.1
  reply ← reply_at from.1
  times ← times_at reply.1
  rest ← end_at times.1
  made_of which.0 who.0 from.0 reply.0 times.0
