-- At level Metadata events don't depend on bodies.
use Rattle.std.proofs.Common.{◌≡◌, ℕ, List, [], ◌∷◌, map, refl, sym, ap, ◌∙◌}
use Rattle.front_base.specs.declared.level.Level.TheVariants as level
use Rattle.front_base.specs.declared.stage.Stage.{Stage}
use Rattle.http_edge.specs.declared.request.Request.{Request}
use Rattle.http_head.specs.declared.request.Head.{Head}
use Rattle.policy_rules.specs.Policy.{first}
use Rattle.policy_rules.specs.declared.decision.Decision.{Decision}
use Rattle.request_info.specs.Request.{audit_info}
use Rattle.stage_event.specs.Events.{event}
use Rattle.stage_event.specs.Views.{with_bodies}
use Rattle.stage_event.specs.declared.facts.Facts.{Facts}
use Rattle.stage_event.specs.declared.facts.Kept.{Kept}
use Rattle.token_users.specs.Act.{act_of}
use Rattle.token_users.specs.Who.{who, user_of}
use Rattle.audit_core.proofs.JudgedLemmas.{attributes_are}
use Rattle.audit_core.specs.Errand.{user_in, act_in, other_of, info_in, attributes_in}
use Rattle.audit_core.specs.Exchange.{IsAnswered, facts_by, decision_in}
use Rattle.audit_core.specs.Owed.{events_at, stages_due, owed_at, owed}
use Rattle.audit_core.specs.Answer.{status_of}
use Rattle.audit_core.specs.declared.answered.Answered.{Answered}
use Rattle.audit_core.specs.declared.link_note.LinkNote.{LinkNote}
use Rattle.audit_core.specs.declared.routed.Handling.{Handling}
use Rattle.audit_core.specs.declared.settings.Settings.{Settings}
use Rattle.audit_core.specs.declared.stamp.Stamp.{Stamp}

-- what a request asks for, by whom and how it is recorded are told by its head
same_info : (r q : Request) → r.head ≡ q.head → info_in r ≡ info_in q
unfolding info_in
same_info r q e = ap (λ (h : Head). audit_info h.method h.target) e

same_user : (set : Settings) (r q : Request) → r.head ≡ q.head → user_in set r ≡ user_in set q
unfolding user_in
same_user set r q e = ap (λ (h : Head). user_of (who set.tokens h)) e

same_decision : (set : Settings) (r q : Request) → r.head ≡ q.head → decision_in set r ≡ decision_in set q
unfolding decision_in
same_decision set r q e =
    ap (λ u. first set.policy u (info_in r)) (same_user set r q e) ∙ ap (first set.policy (user_in set q)) (same_info r q e)

same_act : (set : Settings) (r q : Request) → r.head ≡ q.head → act_in set r ≡ act_in set q
unfolding act_in
same_act set r q e = ap (λ (h : Head). act_of (who set.tokens h) h) e

same_attributes : (set : Settings) (r q : Request) → r.head ≡ q.head → attributes_in set r ≡ attributes_in set q
same_attributes set r q e =
    sym (attributes_are set r (info_in q) (user_in set q) (act_in set q) (other_of (act_in set q)) (sym (same_info r q e))
    (sym (same_user set r q e)) (sym (same_act set r q e)) refl)

-- the same facts but for the bodies
same_facts : (set : Settings) (stamp : Stamp) (r q : Request) (n m : ℕ) (a b : Kept) → r.head ≡ q.head → n ≡ m
    → facts_by stamp r (attributes_in set r) n a b ≡ facts_by stamp q (attributes_in set q) m a b
same_facts set stamp r q n m a b e s =
    ap (λ (h : Head). facts_by stamp (record { head = h; body = r.body }) (attributes_in set r) n a b) e
    ∙ ap (λ i. facts_by stamp q i n a b) (same_attributes set r q e)
    ∙ ap (λ k. facts_by stamp q (attributes_in set q) k a b) s

-- a level hides the bodies from every event
abbrev pub HidesBodies : Type 0
HidesBodies = (stage : Stage) (facts : Facts) (request reply : Kept)
    → event stage level.Metadata (with_bodies request reply facts) ≡ event stage level.Metadata facts

same_events : HidesBodies → (facts : Facts) (a b : Kept) (ss : List Stage)
    → map (λ s. event s level.Metadata (with_bodies a b facts)) ss ≡ map (λ s. event s level.Metadata facts) ss
same_events law facts a b [] = refl
same_events law facts a b (s ∷ ss) =
    ap (λ e. e ∷ map (λ t. event t level.Metadata (with_bodies a b facts)) ss) (law s facts a b)
    ∙ ap (λ l. event s level.Metadata facts ∷ l) (same_events law facts a b ss)

-- the events of a request that is recorded so
owed_as : (own d : Decision) (facts : Facts) → own ≡ d → d.level ≡ level.Metadata → owed own facts ≡ events_at level.Metadata d.omit facts
owed_as own d facts e l = ap (λ (k : Decision). owed k facts) e ∙ ap (λ v. owed_at v d.omit facts) l

pub metadata_owed : HidesBodies → (set : Settings) (stamp : Stamp) (r q : Request) (handling other : Handling) (note noted : LinkNote)
    (body text : List ℕ) (x y : Answered) → IsAnswered set stamp r handling note body x → IsAnswered set stamp q other noted text y
    → r.head ≡ q.head → status_of handling note ≡ status_of other noted → (decision_in set r).level ≡ level.Metadata
    → owed x.decision x.facts ≡ owed y.decision y.facts
metadata_owed law set stamp r q handling other note noted body text x y h k e s l =
    let d = decision_in set r in
    let a = x.facts.request in
    let b = x.facts.reply in
    let facts : x.facts ≡ with_bodies a b y.facts =
    h.facts_are.facts_are ∙ same_facts set stamp r q (status_of handling note) (status_of other noted) a b e s
    ∙ sym (ap (with_bodies a b) k.facts_are.facts_are) in
    owed_as x.decision d x.facts h.decision_is l
    ∙ ap (λ f. events_at level.Metadata d.omit f) facts
    ∙ same_events law y.facts a b (stages_due d.omit y.facts.info)
    ∙ sym (owed_as y.decision d y.facts (k.decision_is ∙ sym (same_decision set r q e)) l)
