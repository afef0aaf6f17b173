-- An event is made of the view alone, and a view of a view is that view.
use Rattle.std.proofs.Common.{◌≡◌, ◌≢◌, ℕ, Bool, true, false, List, Option, None, Some, codes, nat_eq, refl, ap, sym, ◌∙◌, ◌&&◌}
use Rattle.std.specs.Prelude.{not, ◌||◌, if◌then◌else◌}
use Rattle.std.specs.List.{starts_with}
use Rattle.std.specs.Str.{bytes_eq}
use Rattle.front_base.specs.Info.{is_long_running, is_stream}
use Rattle.front_base.specs.declared.info.Info.{Info}
use Rattle.front_base.specs.declared.user.User.{User}
use Rattle.front_base.specs.AuditId.{AuditId}
use Rattle.front_base.specs.declared.level.Level.{Level}
use Rattle.front_base.specs.declared.level.Level.TheVariants.{None as NoLevel, Metadata, Request, RequestResponse}
use Rattle.front_base.specs.declared.stage.Stage.{Stage}
use Rattle.front_base.specs.declared.stage.Stage.TheVariants.{RequestReceived, ResponseStarted}
use Rattle.stage_event.specs.declared.event.Event.{Event}
use Rattle.stage_event.specs.declared.event.ObjectRef.{ObjectRef}
use Rattle.stage_event.specs.declared.facts.Facts.{Facts}
use Rattle.stage_event.specs.declared.facts.Kept.{Kept}
use Rattle.stage_event.specs.declared.facts.Kept.TheVariants.{NotAsked}
use Rattle.stage_event.specs.Begun.{as_begun, filled}
use Rattle.stage_event.specs.Due.{request_due, reply_due}
use Rattle.stage_event.specs.Views.{view, recorded, shown_if, started, with_bodies, with_start, with_info, no_facts}
use Rattle.stage_event.specs.Events.{event, event_of, object_ref, reference, is_named, code, request_object, response_object, moment}

-- what every level but None records, in one form
pub view-recorded : (level : Level) (f : Facts) → level ≢ NoLevel →
    view level f ≡ recorded (request_due level f.info) (reply_due level f.info) f
view-recorded NoLevel f h = absurd (h refl)
view-recorded Metadata f h = refl
view-recorded Request f h = refl
view-recorded RequestResponse f h = refl

pub event-views : (stage : Stage) (level : Level) (these those : Facts) → view level these ≡ view level those →
    event stage level these ≡ event stage level those
unfolding event
event-views stage level these those same = ap (event_of stage level) same

recorded-other : (request reply : Bool) (f : Facts) (a b : Kept) → request ≡ false → reply ≡ false →
    recorded request reply (with_bodies a b f) ≡ recorded request reply f
recorded-other false false f a b h k = refl
recorded-other true reply f a b h k = absurd (cc)
recorded-other false true f a b h k = absurd (cc)

and-false : (a b : Bool) → a ≡ false → (a && b) ≡ false
and-false false b h = refl
and-false true b h = absurd (cc)

-- of a request that names no resource no level records a body
pub view-other : (level : Level) (f : Facts) (request reply : Kept) → f.info.resource_request ≡ false →
    view level (with_bodies request reply f) ≡ view level f
view-other NoLevel f a b h = refl
view-other Metadata f a b h = refl
view-other Request f a b h = recorded-other _ _ f a b h refl
view-other RequestResponse f a b h = recorded-other _ _ f a b h (and-false _ _ h)

-- the reply of a request that runs long is recorded at no level
pub view-long : (level : Level) (f : Facts) (reply : Kept) → is_long_running f.info ≡ true →
    view level (with_bodies f.request reply f) ≡ view level f
view-long NoLevel f p h = refl
view-long Metadata f p h = refl
view-long Request f p h = refl
view-long RequestResponse f p h = recorded-long f.info.resource_request (is_long_running f.info) h
  where
    recorded-long : (named long : Bool) → long ≡ true →
        recorded (request_due RequestResponse f.info) (named && not long) (with_bodies f.request p f)
        ≡ recorded (request_due RequestResponse f.info) (named && not long) f
    recorded-long false long e = refl
    recorded-long true true e = refl
    recorded-long true false e = absurd (cc)

abbrev started_of : Bool → ℕ → ℕ
started_of long at = if long then at else 0

started-short : (long : Bool) (a b : ℕ) → long ≡ false → started_of long a ≡ started_of long b
started-short false a b h = refl
started-short true a b h = absurd (cc)

-- nor when the reply started, of a request that doesn't run long
pub view-short : (level : Level) (f : Facts) (started : ℕ) → is_long_running f.info ≡ false →
    view level (with_start started f) ≡ view level f
view-short NoLevel f s h = refl
view-short Metadata f s h = ap (λ n. record (recorded false false f) { started = n }) (started-short (is_long_running f.info) s f.started h)
view-short Request f s h =
    ap (λ n. record (recorded (request_due Request f.info) false f) { started = n })
    (started-short (is_long_running f.info) s f.started h)
view-short RequestResponse f s h =
    ap (λ n. record (recorded (request_due RequestResponse f.info) (reply_due RequestResponse f.info) f) { started = n })
    (started-short (is_long_running f.info) s f.started h)

due-same : (level : Level) (a b : Info) → a.resource_request ≡ b.resource_request →
    is_long_running a ≡ is_long_running b → (request_due level a ≡ request_due level b) × (reply_due level a ≡ reply_due level b)
due-same NoLevel a b h k = (refl, refl)
due-same Metadata a b h k = (refl, refl)
due-same Request a b h k = (h, refl)
due-same RequestResponse a b h k = (h, cc)

long-same : (a b : Info) → a.resource_request ≡ false → b.resource_request ≡ false → a.path ≡ b.path →
    is_long_running a ≡ is_long_running b
unfolding is_long_running
long-same a b h k same =
    ap (λ named. if named then bytes_eq a.verb (codes "watch") || bytes_eq a.verb (codes "proxy") || is_stream a.subresource else starts_with nat_eq a.path (codes "/debug/pprof/")) h
    ∙ (ap (λ path. starts_with nat_eq path (codes "/debug/pprof/")) same
    ∙ sym (ap (λ named. if named then bytes_eq b.verb (codes "watch") || bytes_eq b.verb (codes "proxy") || is_stream b.subresource else starts_with nat_eq b.path (codes "/debug/pprof/")) k))

no_object : (info : Info) → info.resource_request ≡ false → object_ref info ≡ None
no_object info h = ap (λ named. if named && is_named (reference info) then Some (reference info) else None) h

recorded-unnamed : (stage : Stage) (level : Level) (f : Facts) (info : Info) (a b p q : Bool) → a ≡ p → b ≡ q →
    info.verb ≡ f.info.verb → object_ref info ≡ object_ref f.info → is_long_running info ≡ is_long_running f.info →
    event_of stage level (recorded a b (with_info info f)) ≡ event_of stage level (recorded p q f)
recorded-unnamed stage level f info a b p q ha hb hv ho hl = cc

-- of a request that names no resource the information beside path and verb reaches no event
pub event-unnamed : (stage : Stage) (level : Level) (f : Facts) (info : Info) → f.info.resource_request ≡ false →
    info.resource_request ≡ false → info.path ≡ f.info.path → info.verb ≡ f.info.verb →
    event stage level (with_info info f) ≡ event stage level f
unfolding event
event-unnamed stage NoLevel f info h k same verb = refl
event-unnamed stage Metadata f info h k same verb =
    recorded-unnamed stage Metadata f info false false false false refl refl verb (no_object info k ∙ sym (no_object f.info h)) (long-same info f.info k h same)
event-unnamed stage Request f info h k same verb =
    let long = long-same info f.info k h same in
    recorded-unnamed stage Request f info (request_due Request info) false (request_due Request f.info) false (due-same Request info f.info (k ∙ sym h) long).0 refl verb (no_object info k ∙ sym (no_object f.info h)) long
event-unnamed stage RequestResponse f info h k same verb =
    let long = long-same info f.info k h same in
    let dues = due-same RequestResponse info f.info (k ∙ sym h) long in
    recorded-unnamed stage RequestResponse f info (request_due RequestResponse info) (reply_due RequestResponse info)
    (request_due RequestResponse f.info) (reply_due RequestResponse f.info) dues.0 dues.1 verb (no_object info k ∙ sym (no_object f.info h)) long

pub event-none : (stage : Stage) (these those : Facts) → these.id ≡ those.id → event stage NoLevel these ≡ event stage NoLevel those
event-none stage these those same = event-views stage NoLevel these those (ap no_facts same)

-- ---- what a stage hides

pub event-received : (level : Level) (f : Facts) (status started complete : ℕ) (request reply : Kept) →
    event RequestReceived level (filled status request reply started complete f) ≡ event RequestReceived level f
unfolding event
event-received NoLevel f s t c q p = refl
event-received Metadata f s t c q p = refl
event-received Request f s t c q p = refl
event-received RequestResponse f s t c q p = refl

pub event-begun : (level : Level) (f : Facts) → event RequestReceived level (as_begun f) ≡ event RequestReceived level f
event-begun level f = event-received level f 0 f.received f.received NotAsked NotAsked

pub event-started : (level : Level) (f : Facts) (reply : Kept) (complete : ℕ) →
    event ResponseStarted level (filled f.status f.request reply f.started complete f) ≡ event ResponseStarted level f
unfolding event
event-started NoLevel f p c = refl
event-started Metadata f p c = refl
event-started Request f p c = refl
event-started RequestResponse f p c = refl

abbrev made : Level → AuditId → Stage → List ℕ → List ℕ → User → Option User → List ℕ → List ℕ → Option ObjectRef → Option ℕ
    → Option (List ℕ) → Option (List ℕ) → ℕ → ℕ → Event
made level id stage target verb user acting peer agent named code request reply received at =
    record {
      level = level;
      id = id;
      stage = stage;
      target = target;
      verb = verb;
      user = user;
      impersonated = acting;
      peer = peer;
      agent = agent;
      object_ref = named;
      code = code;
      request_object = request;
      response_object = reply;
      received = received;
      at = at;
      truncated = false;
    }

-- an event by its members
pub event_parts : (stage : Stage) (level : Level) (f : Facts) (t v : List ℕ) (u : User) (w : Option User) (a : List ℕ)
    (n : Option ObjectRef) (c : Option ℕ) (q p : Option (List ℕ)) (at : ℕ) → level ≢ NoLevel →
    t ≡ f.target → v ≡ f.info.verb → u ≡ f.user → w ≡ f.acting → a ≡ f.agent → n ≡ object_ref f.info → c ≡ code stage f.status →
    q ≡ request_object stage (shown_if (request_due level f.info) f.request) →
    p ≡ response_object stage (shown_if (reply_due level f.info) f.reply) →
    at ≡ moment stage f.received (started f) f.complete →
    made level f.id stage t v u w f.peer a n c q p f.received at ≡ event stage level f
unfolding event
event_parts stage level f t v u w a n c q p at h et ev eu ew ea en ec eq ep em =
    let whole : made level f.id stage t v u w f.peer a n c q p f.received at
    ≡ event_of stage level (recorded (request_due level f.info) (reply_due level f.info) f) = cc in
    whole ∙ sym (ap (event_of stage level) (view-recorded level f h))

-- ---- what every level but None shows

pub user-shown : (stage : Stage) (level : Level) (f : Facts) → level ≢ NoLevel → (event stage level f).user ≡ f.user
unfolding event
user-shown stage NoLevel f h = absurd (h refl)
user-shown stage Metadata f h = refl
user-shown stage Request f h = refl
user-shown stage RequestResponse f h = refl

pub acting-shown : (stage : Stage) (level : Level) (f : Facts) → level ≢ NoLevel → (event stage level f).impersonated ≡ f.acting
unfolding event
acting-shown stage NoLevel f h = absurd (h refl)
acting-shown stage Metadata f h = refl
acting-shown stage Request f h = refl
acting-shown stage RequestResponse f h = refl
