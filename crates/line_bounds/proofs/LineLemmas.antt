-- How many bytes the members of a line have.
use Rattle.std.proofs.Common.{◌≡◌, ℕ, ◌+◌, ◌≤◌, length, true, List, [], ◌∷◌, ◌++◌, Option, Some, None, refl, length-append, arith, lit≤, decimal, map}
use Rattle.std.specs.Prelude.{codes}
use Rattle.std.proofs.lemmas.Fmt.{length-decimal-le}
use Rattle.front_base.specs.AuditId.{audit_id_text}
use Rattle.front_base.specs.Level.{level_name}
use Rattle.front_base.specs.Moment.{moment_text}
use Rattle.front_base.specs.Stage.{stage_name}
use Rattle.front_base.specs.declared.level.Level.{Level}
use Rattle.front_base.specs.declared.level.Level.TheVariants as levels
use Rattle.front_base.specs.declared.stage.Stage.{Stage}
use Rattle.front_base.specs.declared.stage.Stage.TheVariants as stages
use Rattle.front_base.specs.declared.user.User.{User}
use Rattle.json_span.specs.Member.{in_quotes}
use Rattle.json_span.specs.Quote.{quoted}
use Rattle.stage_event.specs.declared.event.Event.{Event}
use Rattle.stage_event.specs.declared.event.ObjectRef.{ObjectRef}
use Rattle.event_text.specs.Members.{joined, member, object, list_of, text, text_if_any, list_if_any, object_if_any}
use Rattle.event_text.specs.Line.{dotted, user_members, reference_members, impersonated_members, object_ref_members, source_member, status_members, truncated_members, event_members, request_members, reply_members, time_members, line_text, stripped}
use Rattle.line_bounds.specs.Bounds.{text_size, texts_size, user_size, acting_size, reference_size, named_size, line_bound, IsAddress, IsCode, HasRanges}
use Rattle.line_bounds.proofs.TextLemmas.{size-quoted}
use Rattle.line_bounds.proofs.NumberLemmas.{size-moment, size-id, dotted-sixteen}

-- the bytes of members, with a comma for each
abbrev size_of : List (List ℕ) → ℕ
size_of [] = 0
size_of (m ∷ ms) = length m + 1 + size_of ms

of-append : (xs ys : List (List ℕ)) → size_of (xs ++ ys) ≡ size_of xs + size_of ys
of-append [] ys = omega arith
of-append (x ∷ xs) ys = let rest = of-append xs ys in omega arith

joined-most : (ms : List (List ℕ)) → length (joined ms) ≤ size_of ms
joined-most [] = omega arith
joined-most (m ∷ []) = omega arith
joined-most (m ∷ n ∷ ms) =
    let rest = joined-most (n ∷ ms) in
    let a = length-append m (44 ∷ joined (n ∷ ms)) in
    omega arith

object-most : (ms : List (List ℕ)) → length (object ms) ≤ size_of ms + 2
object-most ms = let a = joined-most ms in let b = length-append (joined ms) (125 ∷ []) in omega arith

list-most : (vs : List (List ℕ)) → length (list_of vs) ≤ size_of vs + 2
list-most vs = let a = joined-most vs in let b = length-append (joined vs) (93 ∷ []) in omega arith

member-size : (name value : List ℕ) → length (member name value) ≡ length name + length value + 3
member-size name value =
    let a = length-append (in_quotes name) (58 ∷ value) in
    let b = length-append name (34 ∷ []) in
    omega arith

text-size : (name value : List ℕ) → length (text name value) ≡ length name + text_size value + 5
text-size name value = let a = member-size name (quoted value) in let b = size-quoted value in omega arith

if-any : (name value : List ℕ) → size_of (text_if_any name value) ≤ length name + text_size value + 6
if-any name [] = omega arith
if-any name (c ∷ cs) = let a = text-size name (c ∷ cs) in omega arith

quoted-sizes : (texts : List (List ℕ)) → size_of (map quoted texts) ≡ texts_size texts
quoted-sizes [] = refl
quoted-sizes (t ∷ ts) = let a = size-quoted t in let rest = quoted-sizes ts in omega arith

list-if-any : (name : List ℕ) (values : List (List ℕ)) → size_of (list_if_any name values) ≤ length name + size_of values + 6
list-if-any name [] = omega arith
list-if-any name (v ∷ vs) =
    let a = member-size name (list_of (v ∷ vs)) in let b = list-most (v ∷ vs) in omega arith

object-if-any : (name : List ℕ) (members : List (List ℕ)) → size_of (object_if_any name members) ≤ length name + size_of members + 6
object-if-any name [] = omega arith
object-if-any name (m ∷ ms) =
    let a = member-size name (object (m ∷ ms)) in let b = object-most (m ∷ ms) in omega arith

-- ---- users and objects

user-most : (user : User) → size_of (user_members user) ≤ user_size user + 35
user-most user =
    let name = text_if_any (codes "username") user.name in
    let uid = text_if_any (codes "uid") user.uid in
    let groups = list_if_any (codes "groups") (map quoted user.groups) in
    let a = of-append name (uid ++ groups) in
    let b = of-append uid groups in
    let p = if-any (codes "username") user.name in
    let q = if-any (codes "uid") user.uid in
    let r = list-if-any (codes "groups") (map quoted user.groups) in
    let s = quoted-sizes user.groups in
    omega arith

acting-most : (user : Option User) → size_of (impersonated_members user) ≤ acting_size user + 57
acting-most None = omega arith
acting-most (Some user) =
    let a = object-if-any (codes "impersonatedUser") (user_members user) in
    let b = user-most user in
    omega arith

reference-most : (r : ObjectRef) → size_of (reference_members r) ≤ reference_size r + 86
reference-most r =
    let resource = text_if_any (codes "resource") r.resource in
    let namespace = text_if_any (codes "namespace") r.namespace in
    let name = text_if_any (codes "name") r.name in
    let group = text_if_any (codes "apiGroup") r.group in
    let version = text_if_any (codes "apiVersion") r.version in
    let subresource = text_if_any (codes "subresource") r.subresource in
    let a = of-append resource (namespace ++ (name ++ (group ++ (version ++ subresource)))) in
    let b = of-append namespace (name ++ (group ++ (version ++ subresource))) in
    let c = of-append name (group ++ (version ++ subresource)) in
    let d = of-append group (version ++ subresource) in
    let e = of-append version subresource in
    let p = if-any (codes "resource") r.resource in
    let q = if-any (codes "namespace") r.namespace in
    let s = if-any (codes "name") r.name in
    let t = if-any (codes "apiGroup") r.group in
    let u = if-any (codes "apiVersion") r.version in
    let v = if-any (codes "subresource") r.subresource in
    omega arith

named-most : (o : Option ObjectRef) → size_of (object_ref_members o) ≤ named_size o + 101
named-most None = omega arith
named-most (Some r) =
    let a = object-if-any (codes "objectRef") (reference_members r) in
    let b = reference-most r in
    omega arith

-- ---- the parts of a line

level-most : (level : Level) → text_size (level_name level) ≤ 15
unfolding text_size
level-most levels.None = lit≤ tt
level-most levels.Metadata = lit≤ tt
level-most levels.Request = lit≤ tt
level-most levels.RequestResponse = lit≤ tt

stage-most : (stage : Stage) → text_size (stage_name stage) ≤ 16
unfolding text_size
stage-most stages.RequestReceived = lit≤ tt
stage-most stages.ResponseStarted = lit≤ tt
stage-most stages.ResponseComplete = lit≤ tt
stage-most stages.Panic = lit≤ tt

fixed : (text_size (codes "Event") ≡ 5) × (text_size (codes "audit.k8s.io/v1") ≡ 15)
unfolding text_size
fixed = (refl, refl)

event-most : (e : Event) → size_of (event_members e) ≤ 148
unfolding event_members
event-most e =
    let a = text-size (codes "kind") (codes "Event") in
    let b = text-size (codes "apiVersion") (codes "audit.k8s.io/v1") in
    let c = text-size (codes "level") (level_name e.level) in
    let d = text-size (codes "auditID") (audit_id_text e.id) in
    let g = text-size (codes "stage") (stage_name e.stage) in
    let p = level-most e.level in
    let q = size-id e.id in
    let r = stage-most e.stage in
    omega (arith, fixed)

source-most : (ip : List ℕ) → IsAddress ip → length (source_member ip) ≤ 33
source-most ip h =
    let a = member-size (codes "sourceIPs") (list_of (in_quotes (dotted ip) ∷ [])) in
    let b = list-most (in_quotes (dotted ip) ∷ []) in
    let c = length-append (dotted ip) (34 ∷ []) in
    let d = dotted-sixteen ip h in
    omega arith

request-most : (e : Event) → IsAddress e.peer →
    size_of (request_members e)
    ≤ text_size e.target + text_size e.verb + user_size e.user + acting_size e.impersonated + text_size e.agent + named_size e.object_ref + 278
unfolding request_members
request-most e address =
    let agent = text_if_any (codes "userAgent") e.agent in
    let named = object_ref_members e.object_ref in
    let acting = impersonated_members e.impersonated in
    let a = text-size (codes "requestURI") e.target in
    let b = text-size (codes "verb") e.verb in
    let c = member-size (codes "user") (object (user_members e.user)) in
    let d = object-most (user_members e.user) in
    let f = user-most e.user in
    let g = of-append acting (source_member e.peer ∷ (agent ++ named)) in
    let h = acting-most e.impersonated in
    let i = source-most e.peer address in
    let j = of-append agent named in
    let k = if-any (codes "userAgent") e.agent in
    let l = named-most e.object_ref in
    omega arith

status-most : (code : Option ℕ) → IsCode code → size_of (status_members code) ≤ 47
status-most None h = omega arith
status-most (Some code) h =
    let digits = length-decimal-le 5 code (lit≤ tt) (omega arith) (omega arith) in
    let own = member (codes "code") (decimal code) in
    let meta = member (codes "metadata") (object []) in
    let a = member-size (codes "responseStatus") (object (meta ∷ own ∷ [])) in
    let b = object-most (meta ∷ own ∷ []) in
    let c = member-size (codes "code") (decimal code) in
    let d = member-size (codes "metadata") (object []) in
    omega arith

truncated-size : size_of (truncated_members true) ≡ 48
unfolding text_size
truncated-size = refl

times-most : (e : Event) → HasRanges e → size_of (time_members (stripped e)) ≤ 162
unfolding time_members
times-most e ranges =
    let a = text-size (codes "requestReceivedTimestamp") (moment_text e.received) in
    let b = text-size (codes "stageTimestamp") (moment_text e.at) in
    let c = size-moment e.received ranges.received in
    let d = size-moment e.at ranges.at in
    omega (arith, truncated-size)

reply-stripped : (e : Event) → size_of (reply_members (stripped e)) ≡ size_of (status_members e.code)
unfolding reply_members
reply-stripped e = let a = of-append (status_members e.code) [] in omega arith

pub line-most : (e : Event) → HasRanges e → length (line_text (stripped e)) ≤ line_bound e
unfolding line_text
line-most e ranges =
    let s : Event = stripped e in
    let event = event_members s in
    let request = request_members s in
    let reply = reply_members s in
    let times = time_members s in
    let a = object-most (event ++ (request ++ (reply ++ times))) in
    let b = of-append event (request ++ (reply ++ times)) in
    let c = of-append request (reply ++ times) in
    let d = of-append reply times in
    let p = event-most s in
    let q = request-most s ranges.peer in
    let r = status-most e.code ranges.code in
    let t = reply-stripped e in
    let u = times-most e ranges in
    omega arith
