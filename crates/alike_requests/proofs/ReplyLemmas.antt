-- What an event shows of the replies to two requests.
use Rattle.std.proofs.Common.{◌≡◌, ◌||◌, ℕ, Bool, true, false, if◌then◌else◌, List, [], Option, Some, None, refl, ap, ap₂, sym, ◌∙◌, subst}
use Rattle.alike_requests.specs.Alike.{AnsweredAlike, BodiesAlike, EndedAlike, RepliedAlike, SettledAlike, gives_body}
use Rattle.alike_requests.specs.Seen.{IsReplied, IsSettled, Replied, Seen, Settled, handled_by}
use Rattle.alike_requests.specs.Seen.{cut, unfinished, whole}
use Rattle.audit_core.specs.Answer.{body_of, link_body, link_status, refused_body}
use Rattle.audit_core.specs.Errand.{attributes_in}
use Rattle.audit_core.specs.Exchange.{KeepsReply, decision_in, sent_body}
use Rattle.audit_core.specs.Offers.{has_refused}
use Rattle.audit_core.specs.Routing.{routed_by}
use Rattle.audit_core.specs.declared.attributes.Attributes.{Attributes}
use Rattle.audit_core.specs.declared.errand.Errand.{Errand}
use Rattle.audit_core.specs.declared.errand.Errand.TheVariants as errand
use Rattle.audit_core.specs.declared.link_note.LinkNote.{LinkNote}
use Rattle.audit_core.specs.declared.link_note.LinkNote.TheVariants as note
use Rattle.audit_core.specs.declared.routed.Handling.{Handling}
use Rattle.audit_core.specs.declared.routed.Handling.TheVariants.{Refused, Served, Proxied}
use Rattle.audit_core.specs.declared.settings.Settings.{Settings}
use Rattle.exchange_replies.specs.Sent.{is_head}
use Rattle.exchange_replies.specs.Streams.{IsCutOff}
use Rattle.http_edge.specs.declared.request.Request.{Request}
use Rattle.policy_rules.specs.declared.decision.Decision.{Decision}
use Rattle.stage_event.specs.Due.{reply_show}
use Rattle.stage_event.specs.Kept.{IsKeptAs}
use Rattle.stage_event.specs.Views.{shown}
use Rattle.stage_event.specs.declared.facts.Kept.{Kept}
use Rattle.stage_event.specs.declared.facts.Kept.TheVariants.{NotAsked}
use Rattle.stage_event.specs.declared.show.Show.{Show}
use Rattle.stage_event.specs.declared.show.Show.TheVariants as shows

-- the law that is called
abbrev pub OneKept : Type 0
OneKept = (show : Show) (body : List ℕ) (these those : Kept) → IsKeptAs show body these → IsKeptAs show body those → these ≡ those

-- ---- bodies that are this server's own

-- without a backend's reply the body is that of the status
own_body : (link : LinkNote) (body : List ℕ) → gives_body link ≡ false → link_body link body ≡ refused_body (link_status link)
own_body note.NotUsed body e = refl
own_body (note.Whole status) body e = absurd cc
own_body (note.Streamed status) body e = absurd cc
own_body note.DialFailed body e = refl
own_body note.BadReply body e = refl
own_body note.Cut body e = refl
own_body note.LinkFault body e = refl

first_not : (a b : Bool) → (a || b) ≡ false → a ≡ false
first_not false b e = refl
first_not true b e = absurd cc

second_not : (a b : Bool) → (a || b) ≡ false → b ≡ false
second_not false b e = e
second_not true b e = absurd cc

by_test : (b : Bool) (X : Type 0) → (b ≡ true → X) → (b ≡ false → X) → X
by_test true X f g = f refl
by_test false X f g = g refl

module _ (one : OneKept) (d : Decision) (a : Attributes) (r t : Request) (head : is_head r ≡ is_head t) where
  -- the same is kept of one body
  same_body : (body : List ℕ) (k j : Kept) → KeepsReply d a r body k → KeepsReply d a t body j → k ≡ j
  unfolding is_head
  same_body body k j g h =
      one (reply_show d.level d.omit_managed a.info) (sent_body t.head.method body) k j
      (subst (λ b. IsKeptAs (reply_show d.level d.omit_managed a.info) (if b then [] else body) k) head g) h

  pub same_reply : (handling : Handling) (link other : LinkNote) → link_status link ≡ link_status other → (these those : List ℕ)
      → ((gives_body link || gives_body other) ≡ true → (kept : Kept) → KeepsReply d a r (link_body link these) kept → KeepsReply d a t (link_body other those) kept)
      → (k j : Kept) → KeepsReply d a r (body_of handling link these) k → KeepsReply d a t (body_of handling other those) j → k ≡ j
  same_reply (Refused code) link other e these those same k j g h = same_body (refused_body code) k j g h
  same_reply (Served local reply change) link other e these those same k j g h = same_body reply.body k j g h
  same_reply (Proxied target) link other e these those same k j g h =
      by_test (gives_body link || gives_body other) (k ≡ j)
      (λ some. one (reply_show d.level d.omit_managed a.info) (sent_body t.head.method (link_body other those)) k j (same some k g) h)
      (λ none. same_body (refused_body (link_status link)) k j
      (subst (λ (b : List ℕ). KeepsReply d a r b k) (own_body link these (first_not (gives_body link) (gives_body other) none)) g)
      (subst (λ (b : List ℕ). KeepsReply d a t b j)
      (own_body other those (second_not (gives_body link) (gives_body other) none) ∙ ap refused_body (sym e)) h))

-- ---- of what wasn't kept nothing is shown

cut_shows : (show : Show) (kept : Kept) → IsCutOff show kept → shown kept ≡ NotAsked
cut_shows shows.Nothing kept h = ap shown h
cut_shows shows.Whole kept h = ap shown h
cut_shows shows.Pruned kept h = ap shown h

-- ---- two replies

refuse_if : Bool → Errand → Errand
refuse_if refused own = if refused then errand.Refuse 500 else own

-- where strict sinks refused both or none, requests that want the same are handled the same by the same rows
handled_alike : (set : Settings) (s t : Seen) (by other : Settled) → has_refused set s.exchange.offers ≡ has_refused set t.exchange.offers
    → AnsweredAlike set s t by other → handled_by set s by.rows ≡ handled_by set t other.rows
unfolding refuse_if
handled_alike set s t by other refused a =
    ap₂ (λ rows (own : Errand). (routed_by set.endpoints rows own).handling) a.rows (ap₂ refuse_if refused a.wanted)

-- both by the decision and the attributes of one
at_one : (d e : Decision) (a b : Attributes) (t : Request) (body : List ℕ) (kept : Kept) → d ≡ e → a ≡ b → KeepsReply e b t body kept → KeepsReply d a t body kept
at_one d e a b t body kept same equal h =
    subst (λ (x : Decision). KeepsReply x a t body kept) (sym same) (subst (λ (x : Attributes). KeepsReply e x t body kept) (sym equal) h)

module _ (one : OneKept) (set : Settings) (s t : Seen) (decided : decision_in set s.request ≡ decision_in set t.request)
    (attributes : attributes_in set s.request ≡ attributes_in set t.request)
    (refused : has_refused set s.exchange.offers ≡ has_refused set t.exchange.offers) where
  bodies : (by other : Settled) (these those : List ℕ) → AnsweredAlike set s t by other → BodiesAlike set s t by other these those
      → IsReplied set s.request (handled_by set s by.rows) by.link (whole these) s.exchange.facts.reply
      → IsReplied set t.request (handled_by set t other.rows) other.link (whole those) t.exchange.facts.reply
      → s.exchange.facts.reply ≡ t.exchange.facts.reply
  bodies by other these those a b g h =
      same_reply one (decision_in set s.request) (attributes_in set s.request) s.request t.request b.head (handled_by set t other.rows) by.link other.link a.link
      these those b.body s.exchange.facts.reply t.exchange.facts.reply
      (subst (λ (x : Handling). KeepsReply (decision_in set s.request) (attributes_in set s.request) s.request (body_of x by.link these) s.exchange.facts.reply)
      (handled_alike set s t by other refused a) g)
      (at_one (decision_in set s.request) (decision_in set t.request) (attributes_in set s.request) (attributes_in set t.request) t.request
      (body_of (handled_by set t other.rows) other.link those) t.exchange.facts.reply decided attributes h)

  ended : (by other : Settled) (own its : Replied) → AnsweredAlike set s t by other → EndedAlike set s t by other own its
      → IsReplied set s.request (handled_by set s by.rows) by.link own s.exchange.facts.reply
      → IsReplied set t.request (handled_by set t other.rows) other.link its t.exchange.facts.reply
      → shown s.exchange.facts.reply ≡ shown t.exchange.facts.reply
  ended by other (whole these) (whole those) a b g h = ap shown (bodies by other these those a b g h)
  ended by other (whole these) cut a b g h = b.shown
  ended by other (whole these) unfinished a b g h = b.shown
  ended by other cut (whole those) a b g h = b.shown
  ended by other cut cut a b g h = cut_shows _ s.exchange.facts.reply g ∙ sym (cut_shows _ t.exchange.facts.reply h)
  ended by other cut unfinished a b g h = cut_shows _ s.exchange.facts.reply g ∙ sym (ap shown h)
  ended by other unfinished (whole those) a b g h = b.shown
  ended by other unfinished cut a b g h = ap shown g ∙ sym (cut_shows _ t.exchange.facts.reply h)
  ended by other unfinished unfinished a b g h = ap shown (g ∙ sym h)

  pub reply_shown : (o p : Option Settled) → IsSettled set s o → IsSettled set t p → SettledAlike set s t o p → RepliedAlike set s t o p
      → shown s.exchange.facts.reply ≡ shown t.exchange.facts.reply
  reply_shown None None g h a b = ap shown (g.1 ∙ sym h.1)
  reply_shown None (Some other) g h a b = b.shown
  reply_shown (Some by) None g h a b = b.shown
  reply_shown (Some by) (Some other) g h a b = ended by other by.replied other.replied a b g.reply_is h.reply_is
