-- The lines of an exchange conform.
use Rattle.std.proofs.Common.{◌≡◌, ℕ, suc, ◌<◌, ◌≤◌, ◌+◌, Bool, true, false, List, [], ◌∷◌, ◌++◌, length, Option, Some, None, map, refl, sym, ap, ◌∙◌, arith, ◌⊎◌, inl, inr, ⊎_elim, subst, lit<}
use Rattle.std.specs.List.{AllByRecursion}
use Rattle.std.specs.Prelude.{codes, IfSome, not, ◌&&◌, ◌||◌, filter, is_some, is_none, if◌then◌else◌}
use Rattle.front_base.specs.AuditId.{AuditId}
use Rattle.front_base.specs.Info.{is_long_running}
use Rattle.front_base.specs.declared.info.Info.{Info}
use Rattle.front_base.specs.declared.level.Level.{Level}
use Rattle.front_base.specs.declared.level.Level.TheVariants as level
use Rattle.front_base.specs.declared.moment.TheConstants.{MOMENT_END}
use Rattle.front_base.specs.declared.stage.Stage.{Stage}
use Rattle.front_base.specs.declared.stage.Stage.TheVariants as stages
use Rattle.json_prune.specs.Kept.{Keeps}
use Rattle.json_prune.specs.Kept.{kept as value_kept}
use Rattle.json_prune.specs.Mend.{mended}
use Rattle.json_prune.specs.Prune.{managed}
use Rattle.json_span.specs.Value.{Value, StandsFor, flat}
use Rattle.policy_rules.specs.Policy.{first}
use Rattle.policy_rules.specs.declared.decision.Decision.{Decision}
use Rattle.policy_rules.specs.declared.policy.Policy.{Policy}
use Rattle.request_info.specs.Request.{audit_info}
use Rattle.stage_event.specs.Due as due
use Rattle.stage_event.specs.Due.{request_due, reply_due}
use Rattle.stage_event.specs.Events.{event, event_of, object, object_ref, reference, is_named, code, request_object, response_object, moment}
use Rattle.stage_event.specs.Kept.{IsKept, IsKeptAs}
use Rattle.stage_event.specs.Views.{shown_if, recorded, started}
use Rattle.stage_event.specs.declared.event.Event.{Event}
use Rattle.stage_event.specs.declared.event.ObjectRef.{ObjectRef}
use Rattle.stage_event.specs.declared.facts.Facts.{Facts}
use Rattle.stage_event.specs.declared.facts.Kept.{Kept}
use Rattle.stage_event.specs.declared.facts.Kept.TheVariants as kept
use Rattle.stage_event.specs.declared.show.Show.{Show}
use Rattle.stage_event.specs.declared.show.Show.TheVariants as show
use Rattle.event_text.specs.Line.{body_members, line_text, stripped}
use Rattle.truncate_backend.specs.Fits.{fitted, objects}
use Rattle.truncate_backend.specs.declared.fitted.Fit.{Fit}
use Rattle.truncate_backend.specs.declared.fitted.Fit.TheVariants as fit
use Rattle.audit_core.specs.Owed.{omits, events_at, owed_at, lines_in, fitted_lines}
use Rattle.audit_reader.specs.Ranges.{IsReference}
use Rattle.audit_reader.specs.Plain.{Fits, IsPlain, IsBody, IsKeptJson, named_or_none, somebody_or_none, no_body, is_level, is_stage}
use Rattle.audit_check.specs.Agreement.{info_of, IsInPlace, IsDecided, decision_on, is_answered, is_complete, user_in_place, acting_in_place}
use Rattle.audit_check.specs.Conforms.{AllConform}
use Rattle.audit_check.specs.Lines.{IsLine, HasStage, rank}
use Rattle.audit_check.specs.OwnLines.{AreOfOthers, IsKeptOfAny, IsLineOf}
use Rattle.audit_check.proofs.LineLemmas.{OneEvent, IsNew, more_cases}
use Rattle.fact_ranges.specs.InRange.{AreInRange}

-- ---- what an event of the exchange is

-- what the level shows of the facts
abbrev seen : Level → Facts → Facts
seen own facts = recorded (request_due own facts.info) (reply_due own facts.info) facts

abbrev made : Stage → Level → Facts → Event
made stage own facts = event_of stage own (seen own facts)

event_is_made : (stage : Stage) (own : Level) (facts : Facts) → is_level own ≡ true → event stage own facts ≡ made stage own facts
unfolding event
event_is_made stage level.None facts h = absurd (cc h)
event_is_made stage level.Metadata facts h = refl
event_is_made stage level.Request facts h = refl
event_is_made stage level.RequestResponse facts h = refl

-- ---- bodies

-- what is kept of a body may stand in an event
abbrev pub IsShown : Kept → Type 0
IsShown k = IsBody (object k)

shown_body : (b : Bool) (k : Kept) → IsShown k → IsBody (object (shown_if b k))
shown_body false k h = tt
shown_body true (kept.Compact text) h = h
shown_body true kept.NotAsked h = tt
shown_body true kept.NotJson h = tt
shown_body true kept.Over h = tt
shown_body true kept.CutOff h = tt

request_body : (s : Stage) (b : Bool) (k : Kept) → IsShown k → IsBody (request_object s (shown_if b k))
request_body stages.RequestReceived b k h = tt
request_body stages.ResponseStarted b k h = shown_body b k h
request_body stages.ResponseComplete b k h = shown_body b k h
request_body stages.Panic b k h = shown_body b k h

response_body : (s : Stage) (b : Bool) (k : Kept) → IsShown k → IsBody (response_object s (shown_if b k))
response_body stages.RequestReceived b k h = tt
response_body stages.ResponseStarted b k h = tt
response_body stages.ResponseComplete b k h = shown_body b k h
response_body stages.Panic b k h = tt

-- the laws of kept bodies
pub record KeptLaws : Type 0 where
  pub stands : (omit : Bool) (text : List ℕ) (v : Value) → StandsFor text v → StandsFor (flat (value_kept omit v)) (value_kept omit v)
  pub once : (text : List ℕ) (v : Value) → StandsFor text v → mended (mended v) ≡ mended v
  pub order : (v : Value) → managed (mended v) ≡ mended (managed v)

-- what is kept has no half of a surrogate pair
kept_is_mended : KeptLaws → (omit : Bool) (text : List ℕ) (v : Value) → StandsFor text v → mended (value_kept omit v) ≡ value_kept omit v
kept_is_mended law false text v h = law.once text v h
kept_is_mended law true text v h =
    ap mended (sym (law.order v)) ∙ (sym (law.order (mended v)) ∙ (ap managed (law.once text v h) ∙ law.order v))

keeps_json : KeptLaws → (omit : Bool) (text body : List ℕ) → Keeps omit text body → IsKeptJson text
keeps_json law omit text body h = (
  value_kept omit h.0,
  subst (λ (t : List ℕ). StandsFor t (value_kept omit h.0)) (sym h.2) (law.stands omit body h.0 h.1),
  h.2,
  kept_is_mended law omit body h.0 h.1,
)

kept_shown : KeptLaws → (omit : Bool) (body : List ℕ) (k : Kept) → IsKept omit body k → IsShown k
kept_shown law omit body (kept.Compact text) h = keeps_json law omit text body h.1
kept_shown law omit body kept.NotAsked h = tt
kept_shown law omit body kept.NotJson h = tt
kept_shown law omit body kept.Over h = tt
kept_shown law omit body kept.CutOff h = tt

pub shown : KeptLaws → (show : Show) (body : List ℕ) (k : Kept) → IsKeptAs show body k → IsShown k
shown law show.Nothing body k h = subst IsShown (sym h) tt
shown law show.Whole body k h = kept_shown law false body k h
shown law show.Pruned body k h = kept_shown law true body k h

-- what is kept of some body is, and what shows nothing
pub shown_of_any : KeptLaws → (show : Show) (k : Kept) → IsKeptOfAny show k → IsShown k
shown_of_any law show k (inl h) = shown law show h.0 k h.1
shown_of_any law show k (inr h) = subst IsBody (sym h) tt

-- ---- objects

when_named : (b : Bool) (o : ObjectRef) → (b ≡ true → is_named o ≡ true) → named_or_none (if b then Some o else None) ≡ true
when_named false o h = refl
when_named true o h = h refl

both_right : (a b : Bool) → (a && b) ≡ true → b ≡ true
both_right true b e = e
both_right false b e = absurd (cc e)

object_named : (info : Info) → named_or_none (object_ref info) ≡ true
object_named info =
    when_named (info.resource_request && is_named (reference info)) (reference info) (both_right info.resource_request (is_named (reference info)))

when_valid : (b : Bool) (o : ObjectRef) → IsReference o → IfSome (if b then Some o else None) IsReference
when_valid false o h = tt
when_valid true o h = h

-- ---- places

code_in_range : (s : Stage) (n : ℕ) → n < 65536 → IfSome (code s n) (λ c. c < 65536)
code_in_range stages.RequestReceived n h = tt
code_in_range stages.ResponseStarted n h = h
code_in_range stages.ResponseComplete n h = h
code_in_range stages.Panic n h = h

started_in_range : (b : Bool) (n : ℕ) → n < MOMENT_END → (if b then n else 0) < MOMENT_END
started_in_range true n h = h
started_in_range false n h = lit< tt

moment_in_range : (s : Stage) (r a c : ℕ) → r < MOMENT_END → a < MOMENT_END → c < MOMENT_END → moment s r a c < MOMENT_END
moment_in_range stages.RequestReceived r a c p q o = p
moment_in_range stages.ResponseStarted r a c p q o = q
moment_in_range stages.ResponseComplete r a c p q o = o
moment_in_range stages.Panic r a c p q o = o

status_placed : (s : Stage) (n : ℕ) → (if is_answered s then is_some (code s n) else is_none (code s n)) ≡ true
status_placed stages.RequestReceived n = refl
status_placed stages.ResponseStarted n = refl
status_placed stages.ResponseComplete n = refl
status_placed stages.Panic n = refl

shown_placed : (b : Bool) (k : Kept) → (no_body (object (shown_if b k)) || b) ≡ true
shown_placed false k = refl
shown_placed true (kept.Compact text) = refl
shown_placed true kept.NotAsked = refl
shown_placed true kept.NotJson = refl
shown_placed true kept.Over = refl
shown_placed true kept.CutOff = refl

request_placed : (s : Stage) (b : Bool) (k : Kept) → (no_body (request_object s (shown_if b k)) || (is_answered s && b)) ≡ true
request_placed stages.RequestReceived b k = refl
request_placed stages.ResponseStarted b k = shown_placed b k
request_placed stages.ResponseComplete b k = shown_placed b k
request_placed stages.Panic b k = shown_placed b k

response_placed : (s : Stage) (b : Bool) (k : Kept) → (no_body (response_object s (shown_if b k)) || (is_complete s && b)) ≡ true
response_placed stages.RequestReceived b k = refl
response_placed stages.ResponseStarted b k = refl
response_placed stages.ResponseComplete b k = shown_placed b k
response_placed stages.Panic b k = refl

-- ---- an event agrees with its request and with the policy

-- the law of information: the method gives the verb alone
abbrev pub VerbAlone : Type 0
VerbAlone = (method other target : List ℕ) → record (audit_info method target) { verb = [] } ≡ record (audit_info other target) { verb = [] }

-- what is known of an exchange, beside its facts
pub record Recorded (policy : Policy) (method : List ℕ) (d : Decision) (facts : Facts) : Type 0 where
  pub info : facts.info ≡ audit_info method facts.target
  pub decision : d ≡ first policy facts.user facts.info
  pub acting : somebody_or_none facts.acting ≡ true
  pub user_placed : user_in_place facts.user ≡ true
  pub acting_placed : acting_in_place facts.user facts.acting ≡ true
  pub request : IsShown facts.request
  pub reply : IsShown facts.reply
  pub in_range : AreInRange facts

-- the request's information is what its line says
line_info : VerbAlone → (method target : List ℕ) (info : Info) → info ≡ audit_info method target → record (audit_info (codes "GET") target) { verb = info.verb } ≡ info
line_info law method target info e =
    ap (λ (i : Info). record i { verb = info.verb }) (law (codes "GET") method target) ∙ ap (λ (i : Info). record i { verb = info.verb }) (sym e)

-- an event that has a line and agrees with a policy
pub record Agrees (policy : Policy) (e : Event) : Type 0 where
  pub fits : Fits e
  pub plain : IsPlain e
  pub in_place : IsInPlace (info_of e) e
  pub decided : IsDecided (decision_on policy (info_of e) e) e

made_fits : (s : Stage) (own : Level) (facts : Facts) → AreInRange facts → Fits (made s own facts)
made_fits s own facts h =
    record {
      boot = h.boot;
      bay = h.bay;
      number = h.number;
      target = h.target;
      verb = h.verb;
      user = h.user;
      impersonated = h.acting;
      peer = h.peer;
      agent = h.agent;
      object_ref = when_valid (facts.info.resource_request && is_named (reference facts.info)) (reference facts.info) h.named;
      code = code_in_range s facts.status h.status;
      received = h.received;
      at = moment_in_range s facts.received (started facts) facts.complete h.received (started_in_range (is_long_running facts.info) facts.started h.started) h.complete;
    }

made_plain : (s : Stage) (own : Level) (facts : Facts) → is_level own ≡ true → is_stage s ≡ true → somebody_or_none facts.acting ≡ true → IsShown facts.request → IsShown facts.reply → IsPlain (made s own facts)
made_plain s own facts l g a q p =
    record {
      level = l;
      stage = g;
      impersonated = a;
      object_ref = object_named facts.info;
      whole = refl;
      request = request_body s (request_due own facts.info) facts.request q;
      response = response_body s (reply_due own facts.info) facts.reply p;
    }

made_placed : (s : Stage) (own : Level) (facts : Facts) → user_in_place facts.user ≡ true → acting_in_place facts.user facts.acting ≡ true
    → IsInPlace facts.info (made s own facts)
made_placed s own facts u a =
    record {
      object_ref = refl;
      status = status_placed s facts.status;
      request = request_placed s (request_due own facts.info) facts.request;
      response = response_placed s (reply_due own facts.info) facts.reply;
      truncated = refl;
      user = u;
      acting = a;
    }

stripped_fits : (e : Event) → Fits e → Fits (stripped e)
stripped_fits e h =
    record {
      boot = h.boot;
      bay = h.bay;
      number = h.number;
      target = h.target;
      verb = h.verb;
      user = h.user;
      impersonated = h.impersonated;
      peer = h.peer;
      agent = h.agent;
      object_ref = h.object_ref;
      code = h.code;
      received = h.received;
      at = h.at;
    }

stripped_plain : (e : Event) → IsPlain e → IsPlain (stripped e)
stripped_plain e h =
    record { level = h.level; stage = h.stage; impersonated = h.impersonated; object_ref = h.object_ref; whole = refl; request = tt; response = tt }

or_last : (a : Bool) → (a || true) ≡ true
or_last true = refl
or_last false = refl

-- a body stood in the event
abbrev HasBody : Event → Type 0
HasBody e = objects e ≡ [] → ⊥

may_have : (request reply : Option (List ℕ)) (a b : Bool) → (no_body request || a) ≡ true → (no_body reply || b) ≡ true
    → (body_members (codes "requestObject") request ++ body_members (codes "responseObject") reply ≡ [] → ⊥) → (a || b) ≡ true
may_have None None a b p q h = absurd (h refl)
may_have None (Some body) a b p q h = rw q (or_last a)
may_have (Some body) reply a b p q h = rw p refl

stripped_placed : (info : Info) (e : Event) → IsInPlace info e → HasBody e → IsInPlace info (stripped e)
stripped_placed info e h body =
    record {
      object_ref = h.object_ref;
      status = h.status;
      request = refl;
      response = refl;
      truncated =
          may_have e.request_object e.response_object (is_answered e.stage && request_due e.level info) (is_complete e.stage && reply_due e.level info)
          h.request h.response body;
      user = h.user;
      acting = h.acting;
    }

stripped_agrees : (policy : Policy) (e : Event) → Agrees policy e → HasBody e → Agrees policy (stripped e)
stripped_agrees policy e h body =
    record {
      fits = stripped_fits e h.fits;
      plain = stripped_plain e h.plain;
      in_place = stripped_placed (info_of e) e h.in_place body;
      decided = record { level = h.decided.level; stage = h.decided.stage };
    }

made_agrees : VerbAlone → (policy : Policy) (method : List ℕ) (d : Decision) (facts : Facts) → Recorded policy method d facts → (s : Stage) → is_level d.level ≡ true → is_stage s ≡ true → omits d.omit s ≡ false → Agrees policy (made s d.level facts)
made_agrees law policy method d facts h s l g kept =
    let info = sym (line_info law method facts.target facts.info h.info) in
    let e = made s d.level facts in
    let decided : IsDecided (decision_on policy facts.info e) e = subst (λ (x : Decision). IsDecided x e) h.decision (record { level = refl; stage = kept }) in
    record {
      fits = made_fits s d.level facts h.in_range;
      plain = made_plain s d.level facts l g h.acting h.request h.reply;
      in_place = subst (λ (i : Info). IsInPlace i e) info (made_placed s d.level facts h.user_placed h.acting_placed);
      decided = subst (λ (i : Info). IsDecided (decision_on policy i e) e) info decided;
    }

-- ---- lines one after another

-- each event agrees, and their stages rise from a rank on
abbrev pub Rises : Policy → AuditId → ℕ → List Event → Type 0
Rises policy id low [] = Unit {0}
Rises policy id low (e ∷ es) = Agrees policy e × (e.id ≡ id) × (low ≤ rank e.stage) × Rises policy id (suc (rank e.stage)) es

-- the lines have no stage of the request from that rank on
abbrev pub StaysBelow : List (List ℕ) → AuditId → ℕ → Type 0
StaysBelow lines id low = (stage : Stage) → HasStage lines id stage → rank stage < low

-- the laws of fitted events
pub record FitLaws : Type 0 where
  pub whole : (e : Event) (max : ℕ) (line : List ℕ) → fitted e max ≡ fit.Whole line → (line ≡ line_text e) × (length line ≤ max)
  pub stripped : (e : Event) (max : ℕ) (line : List ℕ) → fitted e max ≡ fit.Stripped line
      → (line ≡ line_text (stripped e)) × (length line ≤ max) × (max < length (line_text e))
  pub bare : (e : Event) (max : ℕ) (line : List ℕ) → objects e ≡ [] → fitted e max ≡ fit.Stripped line → ⊥

-- the fit of an event is its line, or where it had a body the line without
abbrev pub FitsAs : Event → Fit → Type 0
FitsAs e (fit.Whole line) = line ≡ line_text e
FitsAs e (fit.Stripped line) = (line ≡ line_text (stripped e)) × HasBody e
FitsAs e (fit.TooLarge size) = Unit {0}

fits_as : FitLaws → (e : Event) (max : ℕ) (f : Fit) → fitted e max ≡ f → FitsAs e f
fits_as law e max (fit.Whole line) is = (law.whole e max line is).0
fits_as law e max (fit.Stripped line) is = ((law.stripped e max line is).0, λ none. law.bare e max line none is)
fits_as law e max (fit.TooLarge size) is = tt

fitted_as : FitLaws → (e : Event) (max : ℕ) → FitsAs e (fitted e max)
fitted_as law e max = fits_as law e max (fitted e max) refl

below_up : (a low r : ℕ) → a < low → low ≤ r → a < r
below_up a low r h k = omega arith

below_next : (a low r : ℕ) → a < low → low ≤ r → a < suc r
below_next a low r h k = omega arith

below_same : (s t : Stage) → s ≡ t → rank t < suc (rank s)
below_same s t e = subst (λ (x : Stage). rank x < suc (rank s)) e (omega arith)

one_more : OneEvent → (policy : Policy) (before rest : List (List ℕ)) (e : Event) (id : AuditId) (low : ℕ) → Agrees policy e → e.id ≡ id → low ≤ rank e.stage → StaysBelow before id low →
    ((after : List (List ℕ)) → StaysBelow after id (suc (rank e.stage)) → AllConform policy after rest) → AllConform policy before (line_text e ∷ rest)
one_more law policy before rest e id low h own up below go =
    let line : IsLine e (line_text e) = record { fits = h.fits; plain = h.plain; spells = refl } in
    let next : (earlier : Stage) → HasStage before e.id earlier → rank earlier < rank e.stage =
    λ earlier has. below_up (rank earlier) low (rank e.stage) (below earlier (subst (λ (i : AuditId). HasStage before i earlier) own has)) up in
    let after : StaysBelow (before ++ line_text e ∷ []) id (suc (rank e.stage)) =
    λ stage has. ⊎_elim
    (λ (old : HasStage before id stage). below_next (rank stage) low (rank e.stage) (below stage old) up)
    (λ (new : IsNew e id stage). below_same e.stage stage new.1)
    (more_cases law before e (line_text e) line id stage has) in
    (record { event = e; line = line; in_place = h.in_place; decided = h.decided; next = next }, go (before ++ line_text e ∷ []) after)

stays : (lines : List (List ℕ)) (id : AuditId) (low high : ℕ) → low ≤ high → StaysBelow lines id low → StaysBelow lines id (suc high)
stays lines id low high up below = λ stage has. below_next (rank stage) low high (below stage has) up

-- a fitted event conforms, and then the rest
fit_conforms : OneEvent → (policy : Policy) (before rest : List (List ℕ)) (e : Event) (f : Fit) (id : AuditId) (low : ℕ) → FitsAs e f → Agrees policy e → e.id ≡ id → low ≤ rank e.stage → StaysBelow before id low →
    ((after : List (List ℕ)) → StaysBelow after id (suc (rank e.stage)) → AllConform policy after rest) → AllConform policy before (lines_in f ++ rest)
fit_conforms law policy before rest e (fit.Whole line) id low is h own up below go =
    subst (λ (l : List ℕ). AllConform policy before (l ∷ rest)) (sym is) (one_more law policy before rest e id low h own up below go)
fit_conforms law policy before rest e (fit.Stripped line) id low is h own up below go =
    subst (λ (l : List ℕ). AllConform policy before (l ∷ rest)) (sym is.0) (one_more law policy before rest (stripped e) id low (stripped_agrees policy e h is.1) own up below go)
fit_conforms law policy before rest e (fit.TooLarge size) id low is h own up below go =
    go before (stays before id low (rank e.stage) up below)

pub lines_conform : OneEvent → FitLaws → (policy : Policy) (max : ℕ) (id : AuditId) (events : List Event) (low : ℕ) (before : List (List ℕ)) → Rises policy id low events → StaysBelow before id low → AllConform policy before (fitted_lines max events)
lines_conform law fits policy max id [] low before h below = tt
lines_conform law fits policy max id (e ∷ es) low before h below =
    fit_conforms law policy before (fitted_lines max es) e (fitted e max) id low (fitted_as fits e max) h.0 h.1 h.2 below
    (λ after later. lines_conform law fits policy max id es (suc (rank e.stage)) after h.3 later)

-- ---- and are lines of its request

line_of : (policy : Policy) (e : Event) (id : AuditId) → Agrees policy e → e.id ≡ id → IsLineOf id (line_text e)
line_of policy e id h own = record { event = e; line = record { fits = h.fits; plain = h.plain; spells = refl }; id_is = own }

fit_is_of : (policy : Policy) (e : Event) (f : Fit) (id : AuditId) (rest : List (List ℕ)) → FitsAs e f → Agrees policy e → e.id ≡ id → AllByRecursion (IsLineOf id) rest → AllByRecursion (IsLineOf id) (lines_in f ++ rest)
fit_is_of policy e (fit.Whole line) id rest is h own others = (subst (IsLineOf id) (sym is) (line_of policy e id h own), others)
fit_is_of policy e (fit.Stripped line) id rest is h own others = (subst (IsLineOf id) (sym is.0) (line_of policy (stripped e) id (stripped_agrees policy e h is.1) own), others)
fit_is_of policy e (fit.TooLarge size) id rest is h own others = others

lines_are_of : FitLaws → (policy : Policy) (max : ℕ) (id : AuditId) (events : List Event) (low : ℕ) → Rises policy id low events → AllByRecursion (IsLineOf id) (fitted_lines max events)
lines_are_of fits policy max id [] low h = tt
lines_are_of fits policy max id (e ∷ es) low h =
    fit_is_of policy e (fitted e max) id (fitted_lines max es) (fitted_as fits e max) h.0 h.1 (lines_are_of fits policy max id es (suc (rank e.stage)) h.3)

-- ---- the events that are due

-- stages that rise from a rank on
abbrev pub StagesRise : ℕ → List Stage → Type 0
StagesRise low [] = Unit {0}
StagesRise low (s ∷ ss) = (is_stage s ≡ true) × (low ≤ rank s) × StagesRise (suc (rank s)) ss

stages_rise : (b : Bool) → StagesRise 0 (if b then stages.RequestReceived ∷ stages.ResponseStarted ∷ stages.ResponseComplete ∷ [] else stages.RequestReceived ∷ stages.ResponseComplete ∷ [])
stages_rise true = (refl, omega arith, (refl, omega arith, (refl, omega arith, tt)))
stages_rise false = (refl, omega arith, (refl, omega arith, tt))

stages_lower : (low high : ℕ) (ss : List Stage) → low ≤ high → StagesRise high ss → StagesRise low ss
stages_lower low high [] up h = tt
stages_lower low high (s ∷ ss) up h = (h.0, omega (arith, up, h.1), h.2)

unless : (b : Bool) → not b ≡ true → b ≡ false
unless true e = absurd (cc e)
unless false e = refl

-- the event of a stage that isn't left out, before those of the others
kept_rises : VerbAlone → (policy : Policy) (method : List ℕ) (d : Decision) (facts : Facts) → Recorded policy method d facts → is_level d.level ≡ true → (s : Stage) → is_stage s ≡ true → (low : ℕ) → low ≤ rank s →
    (b : Bool) → omits d.omit s ≡ b → (es : List Event) → Rises policy facts.id (suc (rank s)) es → Rises policy facts.id low es →
    Rises policy facts.id low (if not b then event s d.level facts ∷ es else es)
kept_rises law policy method d facts h l s g low up true k es here there = there
kept_rises law policy method d facts h l s g low up false k es here there =
    subst (λ (e : Event). Rises policy facts.id low (e ∷ es)) (sym (event_is_made s d.level facts l))
    (made_agrees law policy method d facts h s l g k, refl, up, here)

map_kept : (b : Bool) (f : Stage → Event) (s : Stage) (ss : List Stage) → map f (if b then s ∷ ss else ss) ≡ (if b then f s ∷ map f ss else map f ss)
map_kept true f s ss = refl
map_kept false f s ss = refl

events_rise : VerbAlone → (policy : Policy) (method : List ℕ) (d : Decision) (facts : Facts) → Recorded policy method d facts → is_level d.level ≡ true → (ss : List Stage) (low : ℕ) → StagesRise low ss →
    Rises policy facts.id low (map (λ s. event s d.level facts) (filter (λ s. not (omits d.omit s)) ss))
events_rise law policy method d facts h l [] low rise = tt
events_rise law policy method d facts h l (s ∷ ss) low rise =
    let others = filter (λ t. not (omits d.omit t)) ss in
    subst (λ (es : List Event). Rises policy facts.id low es) (sym (map_kept (not (omits d.omit s)) (λ t. event t d.level facts) s others))
    (kept_rises law policy method d facts h l s rise.0 low rise.1 (omits d.omit s) refl (map (λ t. event t d.level facts) others)
    (events_rise law policy method d facts h l ss (suc (rank s)) rise.2)
    (events_rise law policy method d facts h l ss low (stages_lower low (suc (rank s)) ss (omega (arith, rise.1)) rise.2)))

stays_none : (lines : List (List ℕ)) (id : AuditId) → AreOfOthers lines id → StaysBelow lines id 0
stays_none lines id h = λ stage has. absurd (h stage has)

due_conform : OneEvent → FitLaws → VerbAlone → (policy : Policy) (method : List ℕ) (d : Decision) (facts : Facts) (max : ℕ) (before : List (List ℕ)) → Recorded policy method d facts → is_level d.level ≡ true → AreOfOthers before facts.id →
    AllConform policy before (fitted_lines max (events_at d.level d.omit facts))
due_conform law fits verb policy method d facts max before h l others =
    lines_conform law fits policy max facts.id (events_at d.level d.omit facts) 0 before
    (events_rise verb policy method d facts h l (due.stages facts.info) 0 (stages_rise (is_long_running facts.info)))
    (stays_none before facts.id others)

pub own_conform : OneEvent → FitLaws → VerbAlone → (policy : Policy) (method : List ℕ) (own : Level) (d : Decision) (facts : Facts) (max : ℕ) (before : List (List ℕ)) → own ≡ d.level → Recorded policy method d facts → AreOfOthers before facts.id →
    AllConform policy before (fitted_lines max (owed_at own d.omit facts))
own_conform law fits verb policy method level.None d facts max before e h others = tt
own_conform law fits verb policy method level.Metadata d facts max before e h others =
    subst (λ (l : Level). AllConform policy before (fitted_lines max (events_at l d.omit facts))) (sym e) (due_conform law fits verb policy method d facts max before h (ap is_level (sym e)) others)
own_conform law fits verb policy method level.Request d facts max before e h others =
    subst (λ (l : Level). AllConform policy before (fitted_lines max (events_at l d.omit facts))) (sym e) (due_conform law fits verb policy method d facts max before h (ap is_level (sym e)) others)
own_conform law fits verb policy method level.RequestResponse d facts max before e h others =
    subst (λ (l : Level). AllConform policy before (fitted_lines max (events_at l d.omit facts))) (sym e) (due_conform law fits verb policy method d facts max before h (ap is_level (sym e)) others)

due_are_of : FitLaws → VerbAlone → (policy : Policy) (method : List ℕ) (d : Decision) (facts : Facts) (max : ℕ) → Recorded policy method d facts → is_level d.level ≡ true →
    AllByRecursion (IsLineOf facts.id) (fitted_lines max (events_at d.level d.omit facts))
due_are_of fits verb policy method d facts max h l =
    lines_are_of fits policy max facts.id (events_at d.level d.omit facts) 0
    (events_rise verb policy method d facts h l (due.stages facts.info) 0 (stages_rise (is_long_running facts.info)))

pub own_are_of : FitLaws → VerbAlone → (policy : Policy) (method : List ℕ) (own : Level) (d : Decision) (facts : Facts) (max : ℕ) → own ≡ d.level → Recorded policy method d facts →
    AllByRecursion (IsLineOf facts.id) (fitted_lines max (owed_at own d.omit facts))
own_are_of fits verb policy method level.None d facts max e h = tt
own_are_of fits verb policy method level.Metadata d facts max e h =
    subst (λ (l : Level). AllByRecursion (IsLineOf facts.id) (fitted_lines max (events_at l d.omit facts))) (sym e) (due_are_of fits verb policy method d facts max h (ap is_level (sym e)))
own_are_of fits verb policy method level.Request d facts max e h =
    subst (λ (l : Level). AllByRecursion (IsLineOf facts.id) (fitted_lines max (events_at l d.omit facts))) (sym e) (due_are_of fits verb policy method d facts max h (ap is_level (sym e)))
own_are_of fits verb policy method level.RequestResponse d facts max e h =
    subst (λ (l : Level). AllByRecursion (IsLineOf facts.id) (fitted_lines max (events_at l d.omit facts))) (sym e) (due_are_of fits verb policy method d facts max h (ap is_level (sym e)))
