-- Every plain event is read from its line.
use Rattle.std.proofs.Common.{◌≡◌, ◌≢◌, ℕ, ◌<◌, Bool, true, false, nat_lt, List, [], ◌∷◌, ◌++◌, map, Option, Some, None, Ok, Err, refl, ap, ◌∙◌, append_assoc, arith, inr}
use Rattle.std.specs.Prelude.{codes, IfSome, ◌&&◌, not}
use Rattle.std.proofs.lemmas.Bool.Decides.{nat_tests}
use Rattle.front_base.specs.AuditId.{audit_id_text}
use Rattle.front_base.specs.Moment.{moment_text}
use Rattle.front_base.specs.declared.moment.TheConstants.{MOMENT_END}
use Rattle.front_base.specs.declared.user.User.{User}
use Rattle.json_span.specs.Quote.{quoted}
use Rattle.stage_event.specs.declared.event.Event.{Event}
use Rattle.stage_event.specs.declared.event.ObjectRef.{ObjectRef}
use Rattle.stage_event.specs.Events.{is_empty}
use Rattle.event_text.specs.Members.{member, joined, object, text, text_if_any, list_if_any}
use Rattle.event_text.specs.Line.{user_members, reference_members, impersonated_members, object_ref_members, source_member, status_members, body_members, truncated_members, event_members, request_members, reply_members, time_members, line_text}
use Rattle.event_members.specs.declared.fault.EventFault.{EventFault}
use Rattle.event_members.specs.declared.fault.EventFault.TheVariants as fault
use Rattle.event_members.specs.Ranges.{IsUser, IsReference}
use Rattle.event_members.specs.ReadBack.{Misses}
use Rattle.event_members.specs.TextMembers.{◌>>=◌, after_word, Fails}
use Rattle.stamp_text.specs.Dates.{if_moment}
use Rattle.audit_reader.specs.Plain.{Fits, IsPlain, Reads, Tells, no_groups, somebody_or_none, named_or_none}
use Rattle.audit_reader.specs.EventLine.{end_at, made_of, event_at}
use Rattle.audit_reader.proofs.PartLemmas.{Laws, which_again, who_again, from_again, reply_again, times_again, lacks_status, lacks_body}

some_user : (n u : List ℕ) (g : List (List ℕ)) → not (is_empty n && (is_empty u && no_groups g)) ≡ true →
    text_if_any (codes "username") n ++ (text_if_any (codes "uid") u ++ list_if_any (codes "groups") (map quoted g)) ≢ []
some_user [] [] [] h e = absurd (cc h)
some_user [] [] (g ∷ gs) h e = absurd (cc e)
some_user [] (c ∷ cs) g h e = absurd (cc e)
some_user (c ∷ cs) u g h e = absurd (cc e)

somebody : (o : Option User) → IfSome o IsUser → somebody_or_none o ≡ true → IfSome o (λ u. IsUser u × (user_members u ≢ []))
somebody None valid h = tt
somebody (Some u) valid h = (valid, some_user u.name u.uid u.groups h)

some_reference : (a b c d e f : List ℕ) → not (is_empty a && is_empty b && is_empty c && is_empty d && is_empty e && is_empty f) ≡ true →
    text_if_any (codes "resource") a ++ (text_if_any (codes "namespace") b ++ (text_if_any (codes "name") c ++ (text_if_any (codes "apiGroup") d ++ (text_if_any (codes "apiVersion") e ++ text_if_any (codes "subresource") f)))) ≢ []
some_reference [] [] [] [] [] [] h k = absurd (cc h)
some_reference [] [] [] [] [] (x ∷ xs) h k = absurd (cc k)
some_reference [] [] [] [] (x ∷ xs) f h k = absurd (cc k)
some_reference [] [] [] (x ∷ xs) e f h k = absurd (cc k)
some_reference [] [] (x ∷ xs) d e f h k = absurd (cc k)
some_reference [] (x ∷ xs) c d e f h k = absurd (cc k)
some_reference (x ∷ xs) b c d e f h k = absurd (cc k)

named : (o : Option ObjectRef) → IfSome o IsReference → named_or_none o ≡ true → IfSome o (λ r. IsReference r × (reference_members r ≢ []))
named None valid h = tt
named (Some r) valid h = (valid, some_reference r.resource r.namespace r.name r.group r.version r.subresource h)

lt_true : (m n : ℕ) → m < n → nat_lt m n ≡ true
lt_true m n h = grind (arith, nat_tests)

moment_fits : (n : ℕ) → n < MOMENT_END → if_moment n ≡ Some n
moment_fits n h = let e : nat_lt n MOMENT_END ≡ true = lt_true n MOMENT_END h in rw e refl

lacks_reply : Laws → (label : List ℕ) (code : Option ℕ) (rq rs : Option (List ℕ)) (value : List ℕ) (ms : List (List ℕ)) → Misses label (codes "responseStatus") → Misses label (codes "requestObject") → Misses label (codes "responseObject") → Misses label (codes "requestReceivedTimestamp") →
    after_word label (joined (status_members code ++ (body_members (codes "requestObject") rq ++ (body_members (codes "responseObject") rs ++ member (codes "requestReceivedTimestamp") value ∷ ms))) ++ 125 ∷ []) ≡ None
lacks_reply law label code rq rs value ms a b c d =
    let m3 = member (codes "requestReceivedTimestamp") value ∷ ms in
    let m2 = body_members (codes "responseObject") rs ++ m3 in
    lacks_status law label code (body_members (codes "requestObject") rq ++ m2) (125 ∷ []) a
    (lacks_body law label (codes "requestObject") rq m2 (125 ∷ []) b
    (lacks_body law label (codes "responseObject") rs m3 (125 ∷ []) c
    (law.commas.missed label (codes "requestReceivedTimestamp") value ms (125 ∷ []) d)))

pub event_again : Laws → (e : Event) → Fits e → IsPlain e → event_at (line_text e) ≡ Some e
unfolding event_at made_of end_at line_text event_members request_members reply_members time_members
event_again law e fits plain =
    let t : List ℕ = 125 ∷ [] in
    let times = text (codes "requestReceivedTimestamp") (moment_text e.received) ∷ text (codes "stageTimestamp") (moment_text e.at) ∷ truncated_members e.truncated in
    let m4 = status_members e.code ++ (body_members (codes "requestObject") e.request_object ++ (body_members (codes "responseObject") e.response_object ++ times)) in
    let m3 = source_member e.peer ∷ (text_if_any (codes "userAgent") e.agent ++ (object_ref_members e.object_ref ++ m4)) in
    let m2 = text (codes "requestURI") e.target ∷ text (codes "verb") e.verb ∷ member (codes "user") (object (user_members e.user)) ∷ (impersonated_members e.impersonated ++ m3) in
    let later = text (codes "stageTimestamp") (moment_text e.at) ∷ truncated_members e.truncated in
    let first = quoted (moment_text e.received) in
    let l1 : after_word (codes "\"responseStatus\":") (joined times ++ t) ≡ None = law.commas.missed (codes "\"responseStatus\":") (codes "requestReceivedTimestamp") first later t (λ x. refl) in
    let l2 : after_word (codes "\"requestObject\":") (joined times ++ t) ≡ None = law.commas.missed (codes "\"requestObject\":") (codes "requestReceivedTimestamp") first later t (λ x. refl) in
    let l3 : after_word (codes "\"responseObject\":") (joined times ++ t) ≡ None = law.commas.missed (codes "\"responseObject\":") (codes "requestReceivedTimestamp") first later t (λ x. refl) in
    let reply = reply_again law e.code e.request_object e.response_object times t refl (inr refl) fits.code plain.request plain.response l1 l2 l3 in
    let regrouped : event_members e ++ (request_members e ++ (reply_members e ++ time_members e)) ≡ event_members e ++ m2 = simp append_assoc in
    ap (λ (ms : List (List ℕ)). event_at (object ms)) regrouped
    ∙ rw (
      which_again law e.level (audit_id_text e.id) e.stage m2 (law.id_valid e.id),
      who_again law e.target e.verb e.user e.impersonated m3 t refl fits.target fits.verb fits.user (somebody e.impersonated fits.impersonated plain.impersonated) (law.commas.missed (codes "\"impersonatedUser\":") (codes "sourceIPs") _ _ t (λ x. refl)),
      from_again law e.peer e.agent e.object_ref m4 t refl fits.peer fits.agent (named e.object_ref fits.object_ref plain.object_ref)
          (lacks_reply law (codes "\"userAgent\":") e.code e.request_object e.response_object _ _ (λ x. refl) (λ x. refl) (λ x. refl) (λ x. refl))
          (lacks_reply law (codes "\"objectRef\":") e.code e.request_object e.response_object _ _ (λ x. refl) (λ x. refl) (λ x. refl) (λ x. refl)),
      reply,
      times_again law e.received e.at e.truncated fits.received fits.at,
      law.id e.id fits.boot fits.bay fits.number,
      moment_fits e.received fits.received,
      moment_fits e.at fits.at,
    ) refl

-- ---- what a reader answers

pub fault_reads : (f : EventFault) (read : Option Event) (e : Event) → Fails f read → read ≡ Some e → Reads (Err f) e
fault_reads fault.NoMemory read e h k = tt
fault_reads fault.NotAnEvent read e h k = absurd (cc (h, k))

pub told_reads : (f : EventFault) (P : Type 0) (e : Event) → Tells (Err f) P → Reads (Err f) e
told_reads fault.NoMemory P e h = tt
told_reads fault.NotAnEvent P e h = h

pub tells_no : (b : Bool) (P : Type 0) → Tells (Ok b) P → b ≡ false → P → ⊥
tells_no true P h e p = absurd (cc e)
tells_no false P h e p = h p

pub same_event : (read : Option Event) (x e : Event) → read ≡ Some x → read ≡ Some e → x ≡ e
same_event read x e h k = cc

pub fails_then : {A B : Type 0} (e : EventFault) (read : Option A) (more : A → Option B) → Fails e read → Fails e (read >>= more)
fails_then fault.NoMemory read more h = tt
fails_then {A} {B} fault.NotAnEvent read more h = rw h refl
