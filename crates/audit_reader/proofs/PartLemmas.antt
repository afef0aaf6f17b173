-- A whole event that was written is read again.
use Rattle.std.proofs.Common.{◌≡◌, ◌≢◌, ℕ, ◌<◌, ◌^◌, Bool, true, false, List, [], ◌∷◌, ◌++◌, length, take, drop, Option, Some, None, refl, ap, sym, ◌∙◌, inl, inr, subst}
use Rattle.std.specs.Prelude.{codes, IfSome}
use Rattle.std.specs.Str.{is_utf8}
use Rattle.std.proofs.lemmas.List.{take_at, drop_at}
use Rattle.front_base.specs.AuditId.{AuditId, audit_id_text}
use Rattle.front_base.specs.Level.{level_name}
use Rattle.front_base.specs.Moment.{moment_text}
use Rattle.front_base.specs.Stage.{stage_name}
use Rattle.front_base.specs.declared.level.Level.{Level}
use Rattle.front_base.specs.declared.moment.TheConstants.{MOMENT_END}
use Rattle.front_base.specs.declared.stage.Stage.{Stage}
use Rattle.front_base.specs.declared.user.User.{User}
use Rattle.json_span.specs.Span.{place_reach, start, EndsMember}
use Rattle.json_span.specs.Number.{IsWhole}
use Rattle.json_span.specs.Quote.{quoted}
use Rattle.json_span.specs.Value.{Value, token, array, object as object_of, IsToken, Spells, StandsFor, flat}
use Rattle.stage_event.specs.declared.event.ObjectRef.{ObjectRef}
use Rattle.event_text.specs.Members.{member, joined, after_commas, object, text, text_if_any, object_if_any}
use Rattle.event_text.specs.Line.{user_members, reference_members, impersonated_members, object_ref_members, source_member, status_members, body_members, truncated_members}
use Rattle.event_members.specs.Ranges.{IsUser, IsReference, IsPeer}
use Rattle.event_members.specs.ReadBack.{Names, Misses, PassesCommas, ReadsTexts, ReadsObjects, ReadsValues}
use Rattle.event_members.specs.TextMembers.{after_word, skip_comma}
use Rattle.stamp_text.specs.Dates.{moment_of}
use Rattle.stamp_text.specs.Ids.{audit_id_of}
use Rattle.audit_reader.specs.Bodies.{body_if_at}
use Rattle.audit_reader.specs.Moments.{micros_at}
use Rattle.audit_reader.specs.Plain.{IsBody, IsKeptJson}
use Rattle.audit_reader.specs.EventLine.{which_at, user_member_at, who_at, from_at, reply_at, times_at}

-- the laws of the crates below
pub record Laws : Type 0 where
  pub commas : PassesCommas
  pub texts : ReadsTexts
  pub objects : ReadsObjects
  pub values : ReadsValues
  pub one_length : (v : Value) (rest : List ℕ) → StandsFor (flat v) v → EndsMember rest → place_reach start (flat v ++ rest) ≡ length (flat v)
  pub id : (id : AuditId) → id.boot < 2 ^ 64 → id.bay < 2 ^ 16 → id.number < 2 ^ 48 → audit_id_of (audit_id_text id) ≡ Some id
  pub id_valid : (id : AuditId) → is_utf8 (audit_id_text id) ≡ true
  pub moment : (micros : ℕ) → micros < MOMENT_END → moment_of (moment_text micros) ≡ Some micros

pub which_again : Laws → (l : Level) (id : List ℕ) (s : Stage) (ms : List (List ℕ)) → is_utf8 id ≡ true →
    which_at (123 ∷ (joined (text (codes "kind") (codes "Event") ∷ text (codes "apiVersion") (codes "audit.k8s.io/v1") ∷ text (codes "level") (level_name l) ∷ text (codes "auditID") id ∷ text (codes "stage") (stage_name s) ∷ ms) ++ 125 ∷ []))
    ≡ Some ((l, id, s), joined ms ++ 125 ∷ [])
unfolding which_at
which_again law l id s ms valid =
    rw (
      law.values.level l (text (codes "auditID") id ∷ text (codes "stage") (stage_name s) ∷ ms) (125 ∷ []) refl,
      law.texts.member (codes "\"auditID\":") (codes "auditID") id (text (codes "stage") (stage_name s) ∷ ms) (125 ∷ []) (λ x. refl) refl valid,
      law.values.stage s ms (125 ∷ []) refl,
    ) refl

pub user_member_again : Laws → (u : User) (ms : List (List ℕ)) (t : List ℕ) → skip_comma t ≡ t → IsUser u →
    user_member_at (joined (member (codes "user") (object (user_members u)) ∷ ms) ++ t) ≡ Some (u, joined ms ++ t)
unfolding user_member_at
user_member_again law u ms t ends valid =
    rw (law.commas.value (codes "\"user\":") (codes "user") (object (user_members u)) ms t (λ x. refl)) (law.objects.user u ms t ends valid)

pub who_again : Laws → (target verb : List ℕ) (u : User) (o : Option User) (ms : List (List ℕ)) (t : List ℕ) → skip_comma t ≡ t →
    is_utf8 target ≡ true → is_utf8 verb ≡ true → IsUser u → IfSome o (λ u. IsUser u × (user_members u ≢ [])) →
    after_word (codes "\"impersonatedUser\":") (joined ms ++ t) ≡ None →
    who_at (joined (text (codes "requestURI") target ∷ text (codes "verb") verb ∷ member (codes "user") (object (user_members u)) ∷ (impersonated_members o ++ ms)) ++ t)
    ≡ Some ((target, verb, u, o), joined ms ++ t)
unfolding who_at
who_again law target verb u o ms t ends a b c d lacks =
    let m3 = impersonated_members o ++ ms in
    let m2 = member (codes "user") (object (user_members u)) ∷ m3 in
    let m1 = text (codes "verb") verb ∷ m2 in
    rw (
      law.texts.member (codes "\"requestURI\":") (codes "requestURI") target m1 t (λ x. refl) ends a,
      law.texts.member (codes "\"verb\":") (codes "verb") verb m2 t (λ x. refl) ends b,
      user_member_again law u m3 t ends c,
      law.objects.impersonated o ms t ends d lacks,
    ) refl

lacks_object : Laws → (label name : List ℕ) (vs ms : List (List ℕ)) (t : List ℕ) → Misses label name →
    after_word label (joined ms ++ t) ≡ None → after_word label (joined (object_if_any name vs ++ ms) ++ t) ≡ None
lacks_object law label name [] ms t misses lacks = lacks
lacks_object law label name (v ∷ vs) ms t misses lacks = law.commas.missed label name (object (v ∷ vs)) ms t misses

lacks_reference : Laws → (label : List ℕ) (o : Option ObjectRef) (ms : List (List ℕ)) (t : List ℕ) → Misses label (codes "objectRef") →
    after_word label (joined ms ++ t) ≡ None → after_word label (joined (object_ref_members o ++ ms) ++ t) ≡ None
lacks_reference law label None ms t misses lacks = lacks
lacks_reference law label (Some r) ms t misses lacks = lacks_object law label (codes "objectRef") (reference_members r) ms t misses lacks

pub lacks_status : Laws → (label : List ℕ) (o : Option ℕ) (ms : List (List ℕ)) (t : List ℕ) → Misses label (codes "responseStatus") →
    after_word label (joined ms ++ t) ≡ None → after_word label (joined (status_members o ++ ms) ++ t) ≡ None
lacks_status law label None ms t misses lacks = lacks
lacks_status law label (Some n) ms t misses lacks = law.commas.missed label (codes "responseStatus") _ ms t misses

pub lacks_body : Laws → (label name : List ℕ) (o : Option (List ℕ)) (ms : List (List ℕ)) (t : List ℕ) → Misses label name →
    after_word label (joined ms ++ t) ≡ None → after_word label (joined (body_members name o ++ ms) ++ t) ≡ None
lacks_body law label name None ms t misses lacks = lacks
lacks_body law label name (Some []) ms t misses lacks = lacks
lacks_body law label name (Some (c ∷ cs)) ms t misses lacks = law.commas.missed label name (c ∷ cs) ms t misses

pub from_again : Laws → (ip agent : List ℕ) (o : Option ObjectRef) (ms : List (List ℕ)) (t : List ℕ) → skip_comma t ≡ t → IsPeer ip → is_utf8 agent ≡ true →
    IfSome o (λ r. IsReference r × (reference_members r ≢ [])) →
    after_word (codes "\"userAgent\":") (joined ms ++ t) ≡ None → after_word (codes "\"objectRef\":") (joined ms ++ t) ≡ None →
    from_at (joined (source_member ip ∷ (text_if_any (codes "userAgent") agent ++ (object_ref_members o ++ ms))) ++ t) ≡ Some ((ip, agent, o), joined ms ++ t)
unfolding from_at
from_again law (a ∷ b ∷ c ∷ d ∷ []) agent o ms t ends p valid named la lo =
    let m2 = object_ref_members o ++ ms in
    rw (
      law.values.peer a b c d (text_if_any (codes "userAgent") agent ++ m2) t ends p.0 p.1 p.2 p.3,
      law.texts.if_any (codes "\"userAgent\":") (codes "userAgent") agent m2 t (λ x. refl) ends valid (lacks_reference law (codes "\"userAgent\":") o ms t (λ x. refl) la),
      law.objects.object_ref o ms t ends named lo,
    ) refl
from_again law [] agent o ms t ends p valid named la lo = absurd p
from_again law (a ∷ []) agent o ms t ends p valid named la lo = absurd p
from_again law (a ∷ b ∷ []) agent o ms t ends p valid named la lo = absurd p
from_again law (a ∷ b ∷ c ∷ []) agent o ms t ends p valid named la lo = absurd p
from_again law (a ∷ b ∷ c ∷ d ∷ e ∷ more) agent o ms t ends p valid named la lo = absurd p

-- ---- bodies

-- a comma or the closing brace comes next
ends_member : (ms : List (List ℕ)) (t : List ℕ) → EndsMember t → EndsMember (after_commas ms ++ t)
ends_member [] t h = h
ends_member (m ∷ ms) t h = inl refl

empty_parts : (a b : List ℕ) → a ++ b ≡ [] → (a ≡ []) × (b ≡ [])
empty_parts [] b e = (refl, e)
empty_parts (x ∷ xs) b e = absurd (cc e)

no_whole : (w : List ℕ) → w ≡ [] → IsWhole w → ⊥
no_whole [] e h = h
no_whole (x ∷ xs) e h = absurd (cc e)

no_token : IsToken [] → ⊥
no_token (inl (inl e)) = absurd (cc e)
no_token (inl (inr (inl e))) = absurd (cc e)
no_token (inl (inr (inr e))) = absurd (cc e)
no_token (inr (inl n)) = no_whole n.whole (empty_parts n.whole (n.fraction ++ n.exponent) (empty_parts n.minus _ (sym n.is)).1).0 n.is_whole
no_token (inr (inr s)) = absurd (cc s.2)

-- the middle of an empty text is empty
no_value : (v : Value) (text : List ℕ) → text ≡ [] → Spells v text → ⊥
no_value (token t) text e h = no_token (subst IsToken (sym h.1 ∙ e) h.0)
no_value (array vs) text e h = absurd (cc (sym h.2 ∙ e))
no_value (object_of ms) text e h = absurd (cc (sym h.2 ∙ e))

filled : (body : List ℕ) → IsKeptJson body → body ≢ []
filled body h e =
    let p = h.1.0 in
    let parts = empty_parts p.0 (p.1 ++ p.2) (sym p.6 ∙ e) in
    no_value h.0 p.1 (empty_parts p.1 p.2 parts.1).0 p.4

pub body_again : Laws → (label name : List ℕ) (o : Option (List ℕ)) (ms : List (List ℕ)) (t : List ℕ) → Names label name → skip_comma t ≡ t → EndsMember t → IsBody o →
    after_word label (joined ms ++ t) ≡ None → body_if_at label (joined (body_members name o ++ ms) ++ t) ≡ Some (o, joined ms ++ t)
unfolding body_if_at
body_again law label name None ms t names ends closed plain lacks = rw lacks refl
body_again law label name (Some []) ms t names ends closed plain lacks = absurd (filled [] plain refl)
body_again law label name (Some (c ∷ cs)) ms t names ends closed plain lacks =
    let body = c ∷ cs in
    let rest = after_commas ms ++ t in
    let v = plain.0 in
    let self : StandsFor (flat v) v = subst (λ b. StandsFor b v) plain.2 plain.1 in
    let n : place_reach start (body ++ rest) ≡ length body =
    ap (λ b. place_reach start (b ++ rest)) plain.2 ∙ law.one_length v rest self (ends_member ms t closed) ∙ ap length (sym plain.2) in
    rw (law.commas.value label name body ms t names) (
    ap (λ (k : ℕ). Some (Some (take k (body ++ rest)), skip_comma (drop k (body ++ rest)))) n
    ∙ rw (take_at body rest (length body) refl, drop_at body rest (length body) refl) (ap (λ (l : List ℕ). Some (Some body, l)) (law.commas.comma ms t ends)))

pub reply_again : Laws → (code : Option ℕ) (request response : Option (List ℕ)) (ms : List (List ℕ)) (t : List ℕ) → skip_comma t ≡ t → EndsMember t →
    IfSome code (λ n. n < 65536) → IsBody request → IsBody response →
    after_word (codes "\"responseStatus\":") (joined ms ++ t) ≡ None → after_word (codes "\"requestObject\":") (joined ms ++ t) ≡ None → after_word (codes "\"responseObject\":") (joined ms ++ t) ≡ None →
    reply_at (joined (status_members code ++ (body_members (codes "requestObject") request ++ (body_members (codes "responseObject") response ++ ms))) ++ t)
    ≡ Some ((code, request, response), joined ms ++ t)
unfolding reply_at
reply_again law code request response ms t ends closed small a b l1 l2 l3 =
    let m2 = body_members (codes "responseObject") response ++ ms in
    let m1 = body_members (codes "requestObject") request ++ m2 in
    rw (
      law.values.code code m1 t ends small
          (lacks_body law (codes "\"responseStatus\":") (codes "requestObject") request m2 t (λ x. refl) (lacks_body law (codes "\"responseStatus\":") (codes "responseObject") response ms t (λ x. refl) l1)),
      body_again law (codes "\"requestObject\":") (codes "requestObject") request m2 t (λ x. refl) ends closed a (lacks_body law (codes "\"requestObject\":") (codes "responseObject") response ms t (λ x. refl) l2),
      body_again law (codes "\"responseObject\":") (codes "responseObject") response ms t (λ x. refl) ends closed b l3,
    ) refl

-- ---- moments

moment_again : Laws → (label name : List ℕ) (n : ℕ) (ms : List (List ℕ)) (t : List ℕ) → Names label name → skip_comma t ≡ t → n < MOMENT_END →
    micros_at label (joined (text name (moment_text n) ∷ ms) ++ t) ≡ Some (n, joined ms ++ t)
unfolding micros_at
moment_again law label name n ms t names ends h =
    rw (law.commas.value label name (quoted (moment_text n)) ms t names, law.texts.string (moment_text n) (after_commas ms ++ t), law.moment n h)
    (ap (λ (l : List ℕ). Some (n, l)) (law.commas.comma ms t ends))

pub times_again : Laws → (r a : ℕ) (truncated : Bool) → r < MOMENT_END → a < MOMENT_END →
    times_at (joined (text (codes "requestReceivedTimestamp") (moment_text r) ∷ text (codes "stageTimestamp") (moment_text a) ∷ truncated_members truncated) ++ 125 ∷ [])
    ≡ Some ((r, a, truncated), 125 ∷ [])
unfolding times_at
times_again law r a false hr ha =
    rw (
      moment_again law (codes "\"requestReceivedTimestamp\":") (codes "requestReceivedTimestamp") r (text (codes "stageTimestamp") (moment_text a) ∷ []) (125 ∷ []) (λ x. refl) refl hr,
      moment_again law (codes "\"stageTimestamp\":") (codes "stageTimestamp") a [] (125 ∷ []) (λ x. refl) refl ha,
    ) refl
times_again law r a true hr ha =
    rw (
      moment_again law (codes "\"requestReceivedTimestamp\":") (codes "requestReceivedTimestamp") r (text (codes "stageTimestamp") (moment_text a) ∷ truncated_members true) (125 ∷ []) (λ x. refl) refl hr,
      moment_again law (codes "\"stageTimestamp\":") (codes "stageTimestamp") a (truncated_members true) (125 ∷ []) (λ x. refl) refl ha,
    ) refl
