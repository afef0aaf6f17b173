-- What is noted of a request, and what a level records of two.
use Rattle.std.proofs.Common.{◌≡◌, ◌≢◌, ◌⊎◌, ℕ, Bool, true, false, if◌then◌else◌, List, [], Option, Some, None, inl, inr, refl, ap, ap₂, sym, ◌∙◌, subst}
use Rattle.std.proofs.lemmas.List.{append-nil}
use Rattle.alike_exchanges.specs.Alike.{AlikeExchanges, fates}
use Rattle.alike_requests.specs.Alike.{AlikeSeen, AlikeShown, OfferedAlike, SettledAlike}
use Rattle.alike_requests.specs.Seen.{AreNotesOfFirst, IsNoted, IsReplied, IsSettled, Replied, Seen, Settled, halted_of, replied_by, replied_so_far, seen_of, settled_of}
use Rattle.alike_requests.proofs.OfferLemmas.{DueParts, OwedParts, none_offered, offers_first, refused_alike, same_notes}
use Rattle.alike_requests.proofs.ReplyLemmas.{OneKept, reply_shown}
use Rattle.apiservice_rows.specs.Row.{Row}
use Rattle.apiservice_table.specs.Changes.{after}
use Rattle.audit_core.specs.Answer.{link_status, status_of}
use Rattle.audit_core.specs.Errand.{act_in, acting_in, attributes_in, errand_in, info_in, user_in}
use Rattle.audit_core.specs.Exchange.{KeepsRequest, agent_in, decision_in, facts_by}
use Rattle.audit_core.specs.Offers.{Due, has_refused, offers_due}
use Rattle.audit_core.specs.Owed.{omits, owed}
use Rattle.audit_core.specs.Routing.{routed_by}
use Rattle.audit_core.specs.declared.answered.Answered.{Answered}
use Rattle.audit_core.specs.declared.attributes.Attributes.{Attributes}
use Rattle.audit_core.specs.declared.link_note.LinkNote.{LinkNote}
use Rattle.audit_core.specs.declared.offers.OfferNote.{OfferNote}
use Rattle.audit_core.specs.declared.errand.Errand.{Errand}
use Rattle.audit_core.specs.declared.errand.Errand.TheVariants as errand
use Rattle.audit_core.specs.declared.routed.Handling.{Handling}
use Rattle.audit_core.specs.declared.routed.Handling.TheVariants.{Refused, Served, Proxied}
use Rattle.audit_core.specs.declared.routed.Routed.{Routed}
use Rattle.audit_core.specs.declared.settings.Settings.{Settings}
use Rattle.audit_core.specs.declared.stamp.Stamp.{Stamp}
use Rattle.event_offers.specs.Lanes.{LanesState}
use Rattle.event_offers.specs.Offering.{OffersAll, events_by, stage_events}
use Rattle.exchange_replies.specs.Streams.{Came, once, streamed, link_of}
use Rattle.front_base.specs.Info.{is_long_running}
use Rattle.front_base.specs.declared.info.Info.{Info}
use Rattle.front_base.specs.declared.level.Level.{Level}
use Rattle.front_base.specs.declared.level.Level.TheVariants as level
use Rattle.front_base.specs.declared.stage.Stage.TheVariants as stage
use Rattle.front_base.specs.declared.user.User.{User}
use Rattle.http_edge.specs.declared.request.Request.{Request}
use Rattle.http_head.specs.declared.request.Head.{Head}
use Rattle.policy_rules.specs.Policy.{first}
use Rattle.policy_rules.specs.declared.decision.Decision.{Decision}
use Rattle.session_core.specs.Bays.{BayState}
use Rattle.session_core.specs.Exchange.{AnsweredBy, ExchangedTo, Halted, StoppedAt, StopsAtEnd, StopsBeforeEnd, answered_of, errand_after, routed_of}
use Rattle.session_core.specs.declared.exchange.Exchange.{Exchange}
use Rattle.stage_event.specs.Due.{request_due, request_show, reply_due}
use Rattle.stage_event.specs.Events.{event, event_of}
use Rattle.stage_event.specs.Kept.{IsKeptAs}
use Rattle.stage_event.specs.Views.{view, shown, shown_if}
use Rattle.stage_event.specs.declared.event.Event.{Event}
use Rattle.stage_event.specs.declared.facts.Facts.{Facts}
use Rattle.stage_event.specs.declared.facts.Kept.{Kept}
use Rattle.stage_event.specs.declared.show.Show.TheVariants.{Nothing}
use Rattle.stream_relay.specs.declared.stream.Relayed.{Relayed}
use Rattle.stream_relay.specs.declared.stream.Relayed.TheVariants as relayed

-- ---- what the contract says of the facts of a request that was answered

record Noted (set : Settings) (stamp : Stamp) (r : Request) (handling : Handling) (link : LinkNote) (replied : Replied) (x : Answered) : Type 0 where
  pub status_is : x.facts.status ≡ status_of handling link
  pub decision_is : x.decision ≡ decision_in set r
  pub request_is : KeepsRequest (decision_in set r) (attributes_in set r) r x.facts.request
  pub facts_are : x.facts ≡ facts_by stamp r (attributes_in set r) x.facts.status x.facts.request x.facts.reply
  pub reply_is : IsReplied set r handling link replied x.facts.reply

own_status : (stamp : Stamp) (r : Request) (a : Attributes) (status : ℕ) (facts : Facts) → facts ≡ facts_by stamp r a status facts.request facts.reply
    → facts ≡ facts_by stamp r a facts.status facts.request facts.reply
own_status stamp r a status facts e = e ∙ ap (λ n. facts_by stamp r a n facts.request facts.reply) (sym (ap (λ (f : Facts). f.status) e))

noted : (set : Settings) (stamp : Stamp) (r : Request) (handling : Handling) (came : Came) (end : Relayed) (x : Answered)
    → AnsweredBy set stamp r handling came end x → Noted set stamp r handling (link_of came) (replied_by came end) x
noted set stamp r handling (once reached) relayed.Done x h = record {
  status_is = ap (λ (f : Facts). f.status) h.facts_are.facts_are;
  decision_is = h.decision_is;
  request_is = h.facts_are.request_is;
  facts_are = own_status stamp r (attributes_in set r) _ x.facts h.facts_are.facts_are;
  reply_is = h.facts_are.reply_is;
}
noted set stamp r handling (once reached) relayed.BackendCut x h = record {
  status_is = ap (λ (f : Facts). f.status) h.facts_are.facts_are;
  decision_is = h.decision_is;
  request_is = h.facts_are.request_is;
  facts_are = own_status stamp r (attributes_in set r) _ x.facts h.facts_are.facts_are;
  reply_is = h.facts_are.reply_is;
}
noted set stamp r handling (once reached) relayed.StreamSpent x h = record {
  status_is = ap (λ (f : Facts). f.status) h.facts_are.facts_are;
  decision_is = h.decision_is;
  request_is = h.facts_are.request_is;
  facts_are = own_status stamp r (attributes_in set r) _ x.facts h.facts_are.facts_are;
  reply_is = h.facts_are.reply_is;
}
noted set stamp r handling (once reached) relayed.WriteFault x h = record {
  status_is = ap (λ (f : Facts). f.status) h.facts_are.facts_are;
  decision_is = h.decision_is;
  request_is = h.facts_are.request_is;
  facts_are = own_status stamp r (attributes_in set r) _ x.facts h.facts_are.facts_are;
  reply_is = h.facts_are.reply_is;
}
noted set stamp r handling (streamed head frame after) relayed.Done x h = record {
  status_is = ap (λ (f : Facts). f.status) h.facts_are.facts_are;
  decision_is = h.decision_is;
  request_is = h.facts_are.request_is;
  facts_are = own_status stamp r (attributes_in set r) _ x.facts h.facts_are.facts_are;
  reply_is = h.facts_are.reply_is;
}
noted set stamp r handling (streamed head frame after) relayed.BackendCut x h = record {
  status_is = ap (λ (f : Facts). f.status) h.facts_are;
  decision_is = h.decision_is;
  request_is = h.request_is;
  facts_are = own_status stamp r (attributes_in set r) _ x.facts h.facts_are;
  reply_is = h.reply_is;
}
noted set stamp r handling (streamed head frame after) relayed.StreamSpent x h = record {
  status_is = ap (λ (f : Facts). f.status) h.facts_are;
  decision_is = h.decision_is;
  request_is = h.request_is;
  facts_are = own_status stamp r (attributes_in set r) _ x.facts h.facts_are;
  reply_is = h.reply_is;
}
noted set stamp r handling (streamed head frame after) relayed.WriteFault x h = record {
  status_is = ap (λ (f : Facts). f.status) h.facts_are;
  decision_is = h.decision_is;
  request_is = h.request_is;
  facts_are = own_status stamp r (attributes_in set r) _ x.facts h.facts_are;
  reply_is = h.reply_is;
}

-- ---- what a level records

-- the facts, part by part
parts_of : Stamp → List ℕ → Attributes → List ℕ → ℕ → Kept → Kept → Facts
parts_of stamp target a agent status request reply = record {
  id = stamp.id;
  target = target;
  info = a.info;
  user = a.user;
  acting = a.acting;
  peer = stamp.peer;
  agent = agent;
  status = status;
  request = request;
  reply = reply;
  received = stamp.received;
  started = stamp.started;
  complete = stamp.complete;
}

-- with bodies as they are shown
shown_of : Stamp → List ℕ → Attributes → List ℕ → ℕ → Kept → Kept → Facts
shown_of stamp target a agent status request reply =
    record (parts_of stamp target a agent status request reply) { started = if is_long_running a.info then stamp.started else 0 }

view_is : (l : Level) (stamp : Stamp) (target : List ℕ) (a : Attributes) (agent : List ℕ) (status : ℕ) (request reply : Kept) → l ≢ level.None
    → view l (parts_of stamp target a agent status request reply)
    ≡ shown_of stamp target a agent status (shown_if (request_due l a.info) request) (shown_if (reply_due l a.info) reply)
unfolding parts_of shown_of
view_is level.None stamp target a agent status request reply n = absurd (n refl)
view_is level.Metadata stamp target a agent status request reply n = refl
view_is level.Request stamp target a agent status request reply n = refl
view_is level.RequestResponse stamp target a agent status request reply n = refl

by_parts : (stamp : Stamp) (r : Request) (a : Attributes) (status : ℕ) (request reply : Kept)
    → facts_by stamp r a status request reply ≡ parts_of stamp r.head.target a (agent_in r.head.headers) status request reply
unfolding parts_of
by_parts stamp r a status request reply = refl

same_seen : (l : Level) (stamp other : Stamp) (target aim : List ℕ) (a b : Attributes) (agent client : List ℕ) (status code : ℕ)
    (request ask reply answer : Kept) → l ≢ level.None → stamp ≡ other → target ≡ aim → a ≡ b → agent ≡ client → status ≡ code
    → shown_if (request_due l a.info) request ≡ shown_if (request_due l a.info) ask
    → shown_if (reply_due l a.info) reply ≡ shown_if (reply_due l a.info) answer
    → view l (parts_of stamp target a agent status request reply) ≡ view l (parts_of other aim b client code ask answer)
same_seen l stamp other target aim a b agent client status code request ask reply answer n e1 e2 e3 e4 e5 e6 e7 =
    view_is l stamp target a agent status request reply n
    ∙ (ap₂ (λ k j. shown_of stamp target a agent status k j) e6 e7
    ∙ (sym (view_is l stamp target a agent status ask answer n)
    ∙ (ap₂ (λ st t. view l (parts_of st t a agent status ask answer)) e1 e2
    ∙ (ap (λ x. view l (parts_of other aim x agent status ask answer)) e3
    ∙ ap₂ (λ x c. view l (parts_of other aim b x c ask answer)) e4 e5))))

attributes_by : Info → User → Option User → Attributes
attributes_by info user acting = record { info = info; user = user; acting = acting }

same_attributes : (set : Settings) (r s : Request) → info_in r ≡ info_in s → user_in set r ≡ user_in set s → acting_in set r ≡ acting_in set s
    → attributes_in set r ≡ attributes_in set s
unfolding attributes_by
same_attributes set r s i u a =
    ap₂ (λ x y. attributes_by x y (acting_in set r)) i u ∙ ap (attributes_by (info_in s) (user_in set s)) a

-- ---- of a request that was answered

-- its status is that of its handling by the rows that decided on it
by_rows : (set : Settings) (x : Exchange) (rows : List Row) (own : Errand) (link : LinkNote) → x.facts.status ≡ status_of x.handling link
    → x.link ≡ link → routed_of x ≡ routed_by set.endpoints rows own
    → x.facts.status ≡ status_of (routed_by set.endpoints rows own).handling x.link
by_rows set x rows own link status is routed =
    status ∙ (ap (λ l. status_of x.handling l) (sym is) ∙ ap (λ (d : Routed). status_of d.handling x.link) routed)

-- and so is what is kept of its reply
reply_by_rows : (set : Settings) (r : Request) (x : Exchange) (rows : List Row) (own : Errand) (link : LinkNote) (replied : Replied)
    → IsReplied set r x.handling link replied x.facts.reply → x.link ≡ link → routed_of x ≡ routed_by set.endpoints rows own
    → IsReplied set r (routed_by set.endpoints rows own).handling x.link replied x.facts.reply
reply_by_rows set r x rows own link replied h is routed =
    subst (λ (d : Routed). IsReplied set r d.handling x.link replied x.facts.reply) routed
    (subst (λ (l : LinkNote). IsReplied set r x.handling l replied x.facts.reply) (sym is) h)

-- offers of all dues are of the first of them
all_first : (dues : List Due) (m n : LanesState) (notes : List OfferNote) → OffersAll dues m notes n → AreNotesOfFirst notes dues
all_first dues m n notes h = subst (AreNotesOfFirst notes) (append-nil dues) (offers_first dues [] m notes n h)

pub one_noted : (set : Settings) (peer : List ℕ) (r : Request) (m : BayState) (text : List ℕ) (n : BayState) (end : Relayed) (x : Exchange)
    (h : ExchangedTo set peer r m text n end x) → IsNoted set (seen_of set peer r m text n end x h)
one_noted set peer r m text n end x h =
    let own = noted set h.stamp r x.handling h.came end (answered_of x) h.answered in
    record {
      asked = h.request_is;
      decision_is = own.decision_is;
      request_is = own.request_is;
      facts_are = own.facts_are;
      settled = record {
        status_is = by_rows set x (after m.opening h.routed.decided) (errand_after set x.offers (errand_in set r x.facts.received)) (link_of h.came) own.status_is h.link_is h.routed.routed_is;
        reply_is = reply_by_rows set r x (after m.opening h.routed.decided) (errand_after set x.offers (errand_in set r x.facts.received)) (link_of h.came)
            (replied_by h.came end) own.reply_is h.link_is h.routed.routed_is;
      };
      offers_are = all_first (offers_due set (owed x.decision x.facts)) m.lanes n.lanes x.offers h.offered;
    }

-- ---- of one that memory stopped

reply_so_far : (set : Settings) (r : Request) (m n : BayState) (w0 w : Option (List ℕ)) (rose : Type 0) (stamp : Stamp) (due : List Due) (came : Came) (x : Exchange)
    (at : StopsBeforeEnd set r m n w0 w stamp due came x ⊎ StopsAtEnd set r m n w0 w rose stamp due came x)
    → IsReplied set r x.handling (link_of came) (replied_so_far set r m n w0 w rose stamp due came x at) x.facts.reply
reply_so_far set r m n w0 w rose stamp due came x (inl at) = at.reply_is
reply_so_far set r m n w0 w rose stamp due came x (inr at) = (noted set stamp r x.handling came at.end (answered_of x) at.answered).reply_is

stopped_settled : (set : Settings) (r : Request) (m n : BayState) (w0 w : Option (List ℕ)) (rose : Type 0) (stamp : Stamp) (due : List Due) (x : Exchange)
    (h : StoppedAt set r m n w0 w rose stamp due x) (own : Option Settled)
    → IsSettled set (record { request = r; stamp = stamp; exchange = x; settled = own }) (settled_of set r m n w0 w rose stamp due x h)
stopped_settled set r m n w0 w rose stamp due x (inl h) own = (h.no_reply.status_is, h.no_reply.reply_is)
stopped_settled set r m n w0 w rose stamp due x (inr (inl h)) own = (h.no_reply.status_is, h.no_reply.reply_is)
stopped_settled set r m n w0 w rose stamp due x (inr (inr h)) own = record {
  status_is = by_rows set x (after m.opening h.routed.decided) (errand_after set x.offers (errand_in set r x.facts.received)) (link_of h.came) h.status_is h.link_is h.routed.routed_is;
  reply_is = reply_by_rows set r x (after m.opening h.routed.decided) (errand_after set x.offers (errand_in set r x.facts.received)) (link_of h.came)
      (replied_so_far set r m n w0 w rose stamp due h.came x h.where_is) (reply_so_far set r m n w0 w rose stamp due h.came x h.where_is)
      h.link_is h.routed.routed_is;
}

pub halted_noted : (set : Settings) (peer : List ℕ) (r : Request) (m n : BayState) (w0 w : Option (List ℕ)) (rose : Type 0) (x : Exchange)
    (h : Halted set peer r m n w0 w rose x) → IsNoted set (halted_of set peer r m n w0 w rose x h)
halted_noted set peer r m n w0 w rose x h = record {
  asked = h.request_is;
  decision_is = h.begun.decision_is;
  request_is = h.begun.request_is;
  facts_are = h.begun.facts_are;
  settled = stopped_settled set r m n w0 w rose h.begun.stamp h.due x h.stopped
      (settled_of set r m n w0 w rose h.begun.stamp h.due x h.stopped);
  offers_are = subst (AreNotesOfFirst x.offers) (sym h.due_is) (offers_first h.due h.rest m.lanes x.offers n.lanes h.offered);
}

-- ---- two requests

by_link : (handling : Handling) (note link : LinkNote) → link_status note ≡ link_status link → status_of handling note ≡ status_of handling link
by_link (Refused code) note link e = refl
by_link (Served local reply change) note link e = refl
by_link (Proxied target) note link e = e

same_decision : (set : Settings) (r s : Request) → user_in set r ≡ user_in set s → info_in r ≡ info_in s → decision_in set r ≡ decision_in set s
unfolding decision_in
same_decision set r s u i = ap₂ (first set.policy) u i

status_by : Settings → List Row → Bool → Errand → LinkNote → ℕ
status_by set rows refused own link = status_of (routed_by set.endpoints rows (if refused then errand.Refuse 500 else own)).handling link

same_status : (set : Settings) (rows others : List Row) (refused both : Bool) (own its : Errand) (note link : LinkNote)
    → own ≡ its → rows ≡ others → refused ≡ both → link_status note ≡ link_status link
    → status_by set rows refused own note ≡ status_by set others both its link
unfolding status_by
same_status set rows others refused both own its note link e r o l =
    by_link (routed_by set.endpoints rows (if refused then errand.Refuse 500 else own)).handling note link l
    ∙ (ap (λ (all : List Row). status_by set all refused own link) r ∙ ap₂ (λ b (next : Errand). status_by set others b next link) o e)

status_alike : (set : Settings) (s t : Seen) (o p : Option Settled) → IsSettled set s o → IsSettled set t p
    → has_refused set s.exchange.offers ≡ has_refused set t.exchange.offers → SettledAlike set s t o p → s.exchange.facts.status ≡ t.exchange.facts.status
unfolding status_by
status_alike set s t None None h g o a = h.0 ∙ sym g.0
status_alike set s t None (Some other) h g o a = a.status
status_alike set s t (Some by) None h g o a = a.status
status_alike set s t (Some by) (Some other) h g o a =
    h.status_is
    ∙ (same_status set by.rows other.rows (has_refused set s.exchange.offers) (has_refused set t.exchange.offers) (errand_in set s.request s.exchange.facts.received)
    (errand_in set t.request t.exchange.facts.received) by.link other.link a.wanted a.rows o a.link
    ∙ sym g.status_is)

body_alike : OneKept → (set : Settings) (s t : Seen) → IsNoted set s → IsNoted set t → AlikeShown set s t
    → shown_if (request_due (decision_in set s.request).level (info_in s.request)) s.exchange.facts.request
    ≡ shown_if (request_due (decision_in set s.request).level (info_in s.request)) t.exchange.facts.request
body_alike one set s t g h a =
    ap (shown_if (request_due (decision_in set s.request).level (info_in s.request)))
    (one _ t.request.body s.exchange.facts.request t.exchange.facts.request (a.body s.exchange.facts.request g.request_is) h.request_is)

-- ---- two that look alike above None

-- the event of the first stage shows no status, no body and no later moment
first_shown : (l : Level) (stamp other : Stamp) (target aim : List ℕ) (a b : Attributes) (agent client : List ℕ) (status code : ℕ)
    (request ask reply answer : Kept) → stamp ≡ other → target ≡ aim → a ≡ b → agent ≡ client
    → event_of stage.RequestReceived l (shown_of stamp target a agent status request reply)
    ≡ event_of stage.RequestReceived l (shown_of other aim b client code ask answer)
unfolding shown_of parts_of
first_shown l stamp other target aim a b agent client status code request ask reply answer e1 e2 e3 e4 =
    ap₂ (λ st to. event_of stage.RequestReceived l (shown_of st to a agent status request reply)) e1 e2
    ∙ ap₂ (λ x c. event_of stage.RequestReceived l (shown_of other aim x c status request reply)) e3 e4

first_event : (l : Level) (stamp other : Stamp) (target aim : List ℕ) (a b : Attributes) (agent client : List ℕ) (status code : ℕ)
    (request ask reply answer : Kept) → l ≢ level.None → stamp ≡ other → target ≡ aim → a ≡ b → agent ≡ client
    → event stage.RequestReceived l (parts_of stamp target a agent status request reply)
    ≡ event stage.RequestReceived l (parts_of other aim b client code ask answer)
unfolding event
first_event l stamp other target aim a b agent client status code request ask reply answer n e1 e2 e3 e4 =
    ap (event_of stage.RequestReceived l) (view_is l stamp target a agent status request reply n)
    ∙ (first_shown l stamp other target aim a b agent client status code (shown_if (request_due l a.info) request) (shown_if (request_due l b.info) ask)
    (shown_if (reply_due l a.info) reply) (shown_if (reply_due l b.info) answer) e1 e2 e3 e4
    ∙ sym (ap (event_of stage.RequestReceived l) (view_is l other aim b client code ask answer n)))

shown_where : (due : Bool) (k j : Kept) → (due ≡ true → shown k ≡ shown j) → shown_if due k ≡ shown_if due j
shown_where true k j f = f refl
shown_where false k j f = refl

-- the facts of one, by their parts
facts_in_parts : (set : Settings) (s : Seen) → IsNoted set s → s.exchange.facts
    ≡ parts_of s.stamp s.request.head.target (attributes_in set s.request) (agent_in s.request.head.headers) s.exchange.facts.status
    s.exchange.facts.request s.exchange.facts.reply
facts_in_parts set s g =
    g.facts_are ∙ by_parts s.stamp s.request (attributes_in set s.request) s.exchange.facts.status s.exchange.facts.request s.exchange.facts.reply

module _ (one : OneKept) (parts : OwedParts) (dues : DueParts) (set : Settings) (s t : Seen) (g : IsNoted set s) (h : IsNoted set t) (b : AlikeShown set s t)
    (above : (decision_in set s.request).level ≢ level.None) where
  decided : decision_in set s.request ≡ decision_in set t.request
  decided = same_decision set s.request t.request b.user b.info

  attributes : attributes_in set s.request ≡ attributes_in set t.request
  attributes = same_attributes set s.request t.request b.info b.user b.acting

  first_same : stage_events s.exchange.decision s.exchange.facts stage.RequestReceived ≡ stage_events t.exchange.decision t.exchange.facts stage.RequestReceived
  first_same =
      ap (λ (d : Decision). stage_events d s.exchange.facts stage.RequestReceived) g.decision_is
      ∙ (ap (events_by (decision_in set s.request).level (omits (decision_in set s.request).omit stage.RequestReceived))
      (ap (event stage.RequestReceived (decision_in set s.request).level) (facts_in_parts set s g)
      ∙ (first_event (decision_in set s.request).level s.stamp t.stamp s.request.head.target t.request.head.target (attributes_in set s.request)
      (attributes_in set t.request) (agent_in s.request.head.headers) (agent_in t.request.head.headers) s.exchange.facts.status t.exchange.facts.status
      s.exchange.facts.request t.exchange.facts.request s.exchange.facts.reply t.exchange.facts.reply above b.moments b.target attributes b.agent
      ∙ sym (ap (event stage.RequestReceived (decision_in set s.request).level) (facts_in_parts set t h))))
      ∙ ap (λ (d : Decision). stage_events d t.exchange.facts stage.RequestReceived) (decided ∙ sym h.decision_is))

  refused : has_refused set s.exchange.offers ≡ has_refused set t.exchange.offers
  refused =
      refused_alike parts dues set s.exchange.decision t.exchange.decision s.exchange.facts t.exchange.facts s.exchange.offers t.exchange.offers first_same
      g.offers_are h.offers_are b.offers

  reply_alike : shown_if (reply_due (decision_in set s.request).level (info_in s.request)) s.exchange.facts.reply
      ≡ shown_if (reply_due (decision_in set s.request).level (info_in s.request)) t.exchange.facts.reply
  reply_alike =
      shown_where (reply_due (decision_in set s.request).level (info_in s.request)) s.exchange.facts.reply t.exchange.facts.reply
      (λ due. reply_shown one set s t decided attributes refused s.settled t.settled g.settled h.settled b.settled (b.reply due))

  pub seen_alike : view (decision_in set s.request).level s.exchange.facts ≡ view (decision_in set s.request).level t.exchange.facts
  seen_alike =
      ap (view (decision_in set s.request).level) (facts_in_parts set s g)
      ∙ (same_seen (decision_in set s.request).level s.stamp t.stamp s.request.head.target t.request.head.target (attributes_in set s.request)
      (attributes_in set t.request) (agent_in s.request.head.headers) (agent_in t.request.head.headers)
      s.exchange.facts.status t.exchange.facts.status s.exchange.facts.request t.exchange.facts.request s.exchange.facts.reply t.exchange.facts.reply
      above b.moments b.target attributes b.agent (status_alike set s t s.settled t.settled g.settled h.settled refused b.settled)
      (body_alike one set s t g h b) reply_alike
      ∙ sym (ap (view (decision_in set s.request).level) (facts_in_parts set t h)))

-- the law that is called
abbrev pub OwedAlike : Type 0
OwedAlike = (x y : Exchange) → AlikeExchanges x y → owed x.decision x.facts ≡ owed y.decision y.facts

by_none : (l : Level) (X : Type 0) → (l ≡ level.None → X) → (l ≢ level.None → X) → X
by_none level.None X f g = f refl
by_none level.Metadata X f g = g (λ never. cc)
by_none level.Request X f g = g (λ never. cc)
by_none level.RequestResponse X f g = g (λ never. cc)

module _ (one : OneKept) (parts : OwedParts) (dues : DueParts) (alike : OwedAlike) (set : Settings) (s t : Seen) (g : IsNoted set s) (h : IsNoted set t)
    (a : AlikeSeen set s t) where
  at : s.exchange.decision.level ≡ (decision_in set s.request).level
  at = ap (λ (d : Decision). d.level) g.decision_is

  -- but for their offers
  apart : AlikeExchanges s.exchange (record t.exchange { offers = s.exchange.offers })
  apart = record {
    level = at ∙ (a.level ∙ sym (ap (λ (d : Decision). d.level) h.decision_is));
    omit = λ other.
        let b = a.shown (λ none. other (at ∙ none)) in
        ap (λ (d : Decision). d.omit) (g.decision_is ∙ (same_decision set s.request t.request b.user b.info ∙ sym h.decision_is));
    view = λ other.
        let above = λ (none : (decision_in set s.request).level ≡ level.None). other (at ∙ none) in
        subst (λ l. view l s.exchange.facts ≡ view l t.exchange.facts) (sym at)
        (seen_alike one parts dues set s t g h (a.shown above) above);
    offers = refl;
  }

  owed_same : owed s.exchange.decision s.exchange.facts ≡ owed t.exchange.decision t.exchange.facts
  owed_same = alike s.exchange (record t.exchange { offers = s.exchange.offers }) apart

  offers_same : s.exchange.offers ≡ t.exchange.offers
  offers_same =
      by_none (decision_in set s.request).level (s.exchange.offers ≡ t.exchange.offers)
      (λ none.
      none_offered set s.exchange.decision s.exchange.facts s.exchange.offers (at ∙ none) g.offers_are
      ∙ sym (none_offered set t.exchange.decision t.exchange.facts t.exchange.offers (sym apart.level ∙ (at ∙ none)) h.offers_are))
      (λ above.
      same_notes (offers_due set (owed s.exchange.decision s.exchange.facts)) s.exchange.offers t.exchange.offers g.offers_are
      (subst (λ (events : List Event). AreNotesOfFirst t.exchange.offers (offers_due set events)) (sym owed_same) h.offers_are) (a.shown above).offers)

  pub one_alike : AlikeExchanges s.exchange t.exchange
  one_alike = record { level = apart.level; omit = apart.omit; view = apart.view; offers = ap fates offers_same }

-- ---- which requests look alike

pub alike_at_none : (set : Settings) (s t : Seen) → (decision_in set s.request).level ≡ level.None → (decision_in set t.request).level ≡ level.None
    → AlikeSeen set s t
alike_at_none set s t e f = record { level = e ∙ sym f; shown = λ other. absurd (other e) }

no_reply : (l : Level) (info : Info) → l ≡ level.Metadata → reply_due l info ≡ false
no_reply level.None info e = absurd cc
no_reply level.Metadata info e = refl
no_reply level.Request info e = absurd cc
no_reply level.RequestResponse info e = absurd cc

nothing_shown : (l : Level) (omit : Bool) (info : Info) → l ≡ level.Metadata → request_show l omit info ≡ Nothing
nothing_shown level.None omit info e = absurd cc
nothing_shown level.Metadata omit info e = refl
nothing_shown level.Request omit info e = absurd cc
nothing_shown level.RequestResponse omit info e = absurd cc

-- nothing is kept of a body at that level
kept_alike : (d other : Decision) (a b : Attributes) (r t : Request) (kept : Kept) → d.level ≡ level.Metadata → other.level ≡ level.Metadata
    → KeepsRequest d a r kept → KeepsRequest other b t kept
kept_alike d other a b r t kept e f keeps =
    subst (λ s. IsKeptAs s t.body kept) (sym (nothing_shown other.level other.omit_managed b.info f))
    (subst (λ s. IsKeptAs s r.body kept) (nothing_shown d.level d.omit_managed a.info e) keeps)

same_level : (set : Settings) (r t : Request) → r.head ≡ t.head → (decision_in set r).level ≡ (decision_in set t).level
unfolding decision_in info_in user_in act_in
same_level set r t e = ap (λ (h : Head). (decision_in set (record { head = h; body = [] })).level) e

pub alike_at_metadata : (set : Settings) (s t : Seen) → (decision_in set s.request).level ≡ level.Metadata
    → s.request.head ≡ t.request.head → s.stamp ≡ t.stamp → SettledAlike set s t s.settled t.settled → OfferedAlike s.exchange.offers t.exchange.offers
    → AlikeSeen set s t
unfolding decision_in info_in user_in act_in
alike_at_metadata set s t l e m a o = record {
  level = same_level set s.request t.request e;
  shown = λ other. record {
    target = ap (λ (h : Head). h.target) e;
    info = ap (λ (h : Head). info_in (record { head = h; body = [] })) e;
    user = ap (λ (h : Head). user_in set (record { head = h; body = [] })) e;
    acting = ap (λ (h : Head). acting_in set (record { head = h; body = [] })) e;
    agent = ap (λ (h : Head). agent_in h.headers) e;
    moments = m;
    body = λ kept. kept_alike (decision_in set s.request) (decision_in set t.request) (attributes_in set s.request) (attributes_in set t.request)
        s.request t.request kept l (sym (same_level set s.request t.request e) ∙ l);
    settled = a;
    reply = λ due. let none = no_reply (decision_in set s.request).level (info_in s.request) l in absurd cc;
    offers = o;
  };
}
