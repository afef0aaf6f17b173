-- Each exchange of a bay is recorded as a request of its own.
use Rattle.std.proofs.Common.{◌≡◌, ℕ, ◌+◌, List, [], ◌∷◌, ◌++◌, length, length-append, Option, None, ◌⊎◌, inl, inr, sym, ap, ◌∙◌, arith, subst}
use Rattle.audit_check.specs.OwnLines.{IsKeptOfAny, IsRecorded}
use Rattle.audit_core.specs.Answer.{body_of, status_of}
use Rattle.audit_core.specs.Errand.{attributes_in, info_in}
use Rattle.audit_core.specs.Exchange.{IsAnswered, decision_in, facts_by, sent_body}
use Rattle.audit_core.specs.Offers.{Due}
use Rattle.audit_core.specs.declared.answered.Answered.{Answered}
use Rattle.audit_core.specs.declared.link_note.LinkNote.{LinkNote}
use Rattle.audit_core.specs.declared.offers.OfferNote.{OfferNote}
use Rattle.audit_core.specs.declared.offers.Outcome.{Outcome}
use Rattle.audit_core.specs.declared.routed.Handling.{Handling}
use Rattle.audit_core.specs.declared.settings.Settings.{Settings}
use Rattle.audit_core.specs.declared.sinks.Sink.{Sink}
use Rattle.audit_core.specs.declared.sinks.Sink.TheVariants.{Log, Webhook}
use Rattle.audit_core.specs.declared.stamp.Stamp.{Stamp}
use Rattle.bay_logs.specs.Noted.{AreNoted, IsNoted}
use Rattle.bay_runs.specs.Runs.{ConnTells, Ran, ServedConn, exchanges_of}
use Rattle.event_offers.specs.Lanes.{LanesState}
use Rattle.event_offers.specs.Offering.{OffersAll, OffersTo}
use Rattle.exchange_replies.specs.Streams.{Came, IsCutOff, link_of, once, reply_body, streamed}
use Rattle.front_ports.specs.Cause.{Rose}
use Rattle.http_edge.specs.declared.request.Request.{Request}
use Rattle.session_core.specs.Bays.{BayState}
use Rattle.session_core.specs.Connection.{ConnState, HaltsAt, Ran as RanRequests, ServedBroken, Serves}
use Rattle.session_core.specs.Exchange.{AnsweredBy, ExchangedTo, Halted, IsAnsweredCut, ReplyStopped, StoppedAt, StopsAtEnd, StopsBeforeEnd, answered_of}
use Rattle.session_core.specs.declared.conn_end.ConnEnd.{ConnEnd}
use Rattle.session_core.specs.declared.conn_end.ConnEnd.TheVariants as conn_end
use Rattle.session_core.specs.declared.exchange.Exchange.{Exchange}
use Rattle.stage_event.specs.Due.{reply_show}
use Rattle.stage_event.specs.Events.{object}
use Rattle.stage_event.specs.declared.facts.Facts.{Facts}
use Rattle.stage_event.specs.declared.facts.Kept.{Kept}
use Rattle.stage_event.specs.declared.facts.Kept.TheVariants.{NotAsked}
use Rattle.stage_event.specs.declared.show.Show.{Show}
use Rattle.stage_event.specs.declared.show.Show.TheVariants as show
use Rattle.stream_relay.specs.declared.stream.Relayed.{Relayed}
use Rattle.stream_relay.specs.declared.stream.Relayed.TheVariants as relayed
use Rattle.truncate_backend.specs.declared.fitted.Fit.{Fit}

-- ---- what is recorded of a request

-- how a request's reply is shown
abbrev shows : Settings → Request → Show
shows set r = reply_show (decision_in set r).level (decision_in set r).omit_managed (info_in r)

cut_shows_none : (own : Show) (kept : Kept) → IsCutOff own kept → object kept ≡ None
cut_shows_none show.Nothing kept h = ap object h
cut_shows_none show.Whole kept h = ap object h
cut_shows_none show.Pruned kept h = ap object h

-- the facts are those by their own status
by_own_status : (set : Settings) (stamp : Stamp) (r : Request) (status : ℕ) (facts : Facts) → facts ≡ facts_by stamp r (attributes_in set r) status facts.request facts.reply
    → facts ≡ facts_by stamp r (attributes_in set r) facts.status facts.request facts.reply
by_own_status set stamp r status facts e =
    e ∙ ap (λ (n : ℕ). facts_by stamp r (attributes_in set r) n facts.request facts.reply) (sym (ap (λ (f : Facts). f.status) e))

module _ (set : Settings) (stamp : Stamp) (r : Request) (handling : Handling) (x : Answered) where
  whole_recorded : (link : LinkNote) (body : List ℕ) → IsAnswered set stamp r handling link body x → IsRecorded set stamp r x.decision x.facts
  whole_recorded link body h = record {
    decision_is = h.decision_is;
    request_is = h.facts_are.request_is;
    reply_is = inl (sent_body r.head.method (body_of handling link body), h.facts_are.reply_is);
    facts_are = by_own_status set stamp r (status_of handling link) x.facts h.facts_are.facts_are;
  }

  cut_recorded : (link : LinkNote) → IsAnsweredCut set stamp r handling link x → IsRecorded set stamp r x.decision x.facts
  cut_recorded link h = record {
    decision_is = h.decision_is;
    request_is = h.request_is;
    reply_is = inr (cut_shows_none (shows set r) x.facts.reply h.reply_is);
    facts_are = by_own_status set stamp r (status_of handling link) x.facts h.facts_are;
  }

  answer_recorded : (came : Came) (end : Relayed) → AnsweredBy set stamp r handling came end x → IsRecorded set stamp r x.decision x.facts
  answer_recorded (once reached) end h = whole_recorded (link_of (once reached)) (reply_body (once reached)) h
  answer_recorded (streamed head frame after) relayed.Done h = whole_recorded (link_of (streamed head frame after)) (reply_body (streamed head frame after)) h
  answer_recorded (streamed head frame after) relayed.WriteFault h = cut_recorded (link_of (streamed head frame after)) h
  answer_recorded (streamed head frame after) relayed.BackendCut h = cut_recorded (link_of (streamed head frame after)) h
  answer_recorded (streamed head frame after) relayed.StreamSpent h = cut_recorded (link_of (streamed head frame after)) h

none_kept : (set : Settings) (r : Request) (kept : Kept) → kept ≡ NotAsked → IsKeptOfAny (shows set r) kept
none_kept set r kept e = inr (ap object e)

reply_stopped : (set : Settings) (r : Request) (m n : BayState) (w0 w : Option (List ℕ)) (rose : Type 0) (stamp : Stamp) (due : List Due) (x : Exchange)
    → ReplyStopped set r m n w0 w rose stamp due x → IsKeptOfAny (shows set r) x.facts.reply
reply_stopped set r m n w0 w rose stamp due x h = by_place h.where_is
  where
    by_place : StopsBeforeEnd set r m n w0 w stamp due h.came x ⊎ StopsAtEnd set r m n w0 w rose stamp due h.came x → IsKeptOfAny (shows set r) x.facts.reply
    by_place (inl at) = none_kept set r x.facts.reply at.reply_is
    by_place (inr at) = (answer_recorded set stamp r x.handling (answered_of x) h.came at.end at.answered).reply_is

reply_of_stopped : (set : Settings) (r : Request) (m n : BayState) (w0 w : Option (List ℕ)) (rose : Type 0) (stamp : Stamp) (due : List Due) (x : Exchange)
    → StoppedAt set r m n w0 w rose stamp due x → IsKeptOfAny (shows set r) x.facts.reply
reply_of_stopped set r m n w0 w rose stamp due x (inl h) = none_kept set r x.facts.reply h.no_reply.reply_is
reply_of_stopped set r m n w0 w rose stamp due x (inr (inl h)) = none_kept set r x.facts.reply h.no_reply.reply_is
reply_of_stopped set r m n w0 w rose stamp due x (inr (inr h)) = reply_stopped set r m n w0 w rose stamp due x h

-- ---- one exchange

-- the request that was recorded is that of the exchange
of_own : (set : Settings) (stamp : Stamp) (r : Request) (x : Exchange) → x.request ≡ r → IsRecorded set stamp r x.decision x.facts
    → IsRecorded set stamp x.request x.decision x.facts
of_own set stamp r x e h = subst (λ (own : Request). IsRecorded set stamp own x.decision x.facts) (sym e) h

exchange_noted : (set : Settings) (peer : List ℕ) (r : Request) (m : BayState) (text : List ℕ) (n : BayState) (end : Relayed) (x : Exchange)
    → ExchangedTo set peer r m text n end x → IsNoted set m.boot m.lanes.bay m.number x
exchange_noted set peer r m text n end x h = record {
  stamp = h.stamp;
  id_is = h.id_is;
  recorded = of_own set h.stamp r x h.request_is (answer_recorded set h.stamp r x.handling (answered_of x) h.came end h.answered);
  in_range = h.in_range;
}

halted_noted : (set : Settings) (peer : List ℕ) (r : Request) (m n : BayState) (w0 w : Option (List ℕ)) (rose : Type 0) (x : Exchange)
    → Halted set peer r m n w0 w rose x → IsNoted set m.boot m.lanes.bay m.number x
halted_noted set peer r m n w0 w rose x h = record {
  stamp = h.begun.stamp;
  id_is = h.begun.id_is;
  recorded = of_own set h.begun.stamp r x h.request_is (record {
    decision_is = h.begun.decision_is;
    request_is = h.begun.request_is;
    reply_is = reply_of_stopped set r m n w0 w rose h.begun.stamp h.due x h.stopped;
    facts_are = h.begun.facts_are;
  });
  in_range = h.in_range;
}

-- ---- the number of a bay

bay_to : (sink : Sink) (written : Fit) (m : LanesState) (own : Outcome) (n : LanesState) → OffersTo sink written m own n → n.bay ≡ m.bay
bay_to Log written m own n h = ap (λ (l : LanesState). l.bay) h.1
bay_to Webhook written m own n h = ap (λ (l : LanesState). l.bay) h.1

bay_all : (dues : List Due) (m : LanesState) (notes : List OfferNote) (n : LanesState) → OffersAll dues m notes n → n.bay ≡ m.bay
bay_all [] m notes n h = ap (λ (l : LanesState). l.bay) h.1
bay_all (due ∷ dues) m notes n h = bay_all dues h.2 h.1 n h.5 ∙ bay_to due.sink due.fit m h.0 h.2 h.3

-- ---- exchanges one after another

record Goes (set : Settings) (m : BayState) (xs : List Exchange) (n : BayState) : Type 0 where
  noted : AreNoted set m.boot m.lanes.bay m.number xs
  boot : n.boot ≡ m.boot
  bay : n.lanes.bay ≡ m.lanes.bay
  number : n.number ≡ m.number + length xs

noted_append : (set : Settings) (boot bay number : ℕ) (xs ys : List Exchange) → AreNoted set boot bay number xs → AreNoted set boot bay (number + length xs) ys
    → AreNoted set boot bay number (xs ++ ys)
noted_append set boot bay number [] ys h k = subst (λ (n : ℕ). AreNoted set boot bay n ys) (let e : number + 0 ≡ number = omega arith in e) k
noted_append set boot bay number (x ∷ xs) ys h k = (
  h.0,
  noted_append set boot bay (number + 1) xs ys h.1
      (subst (λ (n : ℕ). AreNoted set boot bay n ys) (let e : number + length (x ∷ xs) ≡ number + 1 + length xs = omega arith in e) k),
)

goes_none : (set : Settings) (m n : BayState) → n.boot ≡ m.boot → n.lanes.bay ≡ m.lanes.bay → n.number ≡ m.number → Goes set m [] n
goes_none set m n b l k = record { noted = tt; boot = b; bay = l; number = omega (arith, k) }

goes_one : (set : Settings) (m n : BayState) (x : Exchange) → IsNoted set m.boot m.lanes.bay m.number x → n.boot ≡ m.boot → n.lanes.bay ≡ m.lanes.bay → n.number ≡ m.number + 1
    → Goes set m (x ∷ []) n
goes_one set m n x h b l k = record { noted = (h, tt); boot = b; bay = l; number = omega (arith, k) }

noted_from : (set : Settings) (a b c : ℕ) (p q s : ℕ) (ys : List Exchange) → p ≡ a → q ≡ b → s ≡ c → AreNoted set p q s ys → AreNoted set a b c ys
noted_from set a b c p q s ys e f g h =
    subst (λ (z : ℕ). AreNoted set a b z ys) g (subst (λ (z : ℕ). AreNoted set a z s ys) f (subst (λ (z : ℕ). AreNoted set z q s ys) e h))

goes_join : (set : Settings) (m k n : BayState) (xs ys : List Exchange) → Goes set m xs k → Goes set k ys n → Goes set m (xs ++ ys) n
goes_join set m k n xs ys h j = record {
  noted = noted_append set m.boot m.lanes.bay m.number xs ys h.noted
      (noted_from set m.boot m.lanes.bay (m.number + length xs) k.boot k.lanes.bay k.number ys h.boot h.bay h.number j.noted);
  boot = j.boot ∙ h.boot;
  bay = j.bay ∙ h.bay;
  number = omega (arith, h.number, j.number, length-append xs ys);
}

one_goes : (set : Settings) (peer : List ℕ) (r : Request) (m : BayState) (text : List ℕ) (n : BayState) (end : Relayed) (x : Exchange)
    → ExchangedTo set peer r m text n end x → Goes set m (x ∷ []) n
one_goes set peer r m text n end x h =
    goes_one set m n x (exchange_noted set peer r m text n end x h) h.boot_is (bay_all _ m.lanes x.offers n.lanes h.offered) h.number_is

requests_go : (set : Settings) (peer : List ℕ) (m : BayState) (rs : List Request) (out : List ℕ) (n : BayState) (xs : List Exchange)
    → RanRequests set peer m rs out n xs → Goes set m xs n
requests_go set peer m [] out n xs h =
    subst (λ (ys : List Exchange). Goes set m ys n) (sym h.2)
    (goes_none set m n (ap (λ (s : BayState). s.boot) h.1) (ap (λ (s : BayState). s.lanes.bay) h.1) (ap (λ (s : BayState). s.number) h.1))
requests_go set peer m (r ∷ rs) out n xs h =
    subst (λ (ys : List Exchange). Goes set m ys n) (sym h.7)
    (goes_join set m h.2 n (h.3 ∷ []) h.4 (one_goes set peer r m h.0 h.2 relayed.Done h.3 h.5) (requests_go set peer h.2 rs h.1 n h.4 h.8))

halts_go : (set : Settings) (peer : List ℕ) (left : Option (List ℕ)) (rs : List Request) (m n : BayState) (w0 w : Option (List ℕ))
    (rose : Type 0) (xs : List Exchange) → HaltsAt set peer left rs m n w0 w rose xs → Goes set m xs n
halts_go set peer left rs m n w0 w rose xs (inl h) =
    subst (λ (ys : List Exchange). Goes set m ys n) (sym h.0)
    (goes_none set m n (ap (λ (s : BayState). s.boot) h.1.same) (ap (λ (s : BayState). s.lanes.bay) h.1.same) (ap (λ (s : BayState). s.number) h.1.same))
halts_go set peer left rs m n w0 w rose xs (inr h) =
    let halted = h.4 in
    subst (λ (ys : List Exchange). Goes set m ys n) (sym h.2)
    (goes_one set m n h.1 (halted_noted set peer h.0 m n w0 w rose h.1 halted) halted.boot_is (bay_all halted.due m.lanes h.1.offers n.lanes halted.offered)
    halted.number_is)

-- ---- a connection, and a door

last_goes : (set : Settings) (peer : List ℕ) (m k n : BayState) (rs : List Request) (out : List ℕ) (before : List Exchange) (r : Request)
    (text : List ℕ) (end : Relayed) (x : Exchange) (xs : List Exchange) → RanRequests set peer m rs out k before → ExchangedTo set peer r k text n end x
    → xs ≡ before ++ x ∷ [] → Goes set m xs n
last_goes set peer m k n rs out before r text end x xs h own e =
    subst (λ (ys : List Exchange). Goes set m ys n) (sym e)
    (goes_join set m k n before (x ∷ []) (requests_go set peer m rs out k before h) (one_goes set peer r k text n end x own))

broken_goes : (set : Settings) (peer : List ℕ) (m n : BayState) (c d : ConnState) (end : Relayed) (xs : List Exchange)
    → ServedBroken set peer m n c d end xs → Goes set m xs n
broken_goes set peer m n c d end xs h =
    last_goes set peer m h.middle n h.requests h.out h.before h.last h.text end h.x xs h.ran h.broken h.exchanges_are

connection_goes : (set : Settings) (peer : List ℕ) (m n : BayState) (c d : ConnState) (end : ConnEnd) (xs : List Exchange)
    → Serves set peer m n c d end xs → Goes set m xs n
connection_goes set peer m n c d (conn_end.Stopped end) xs h = requests_go set peer m h.requests h.out n xs h.ran
connection_goes set peer m n c d conn_end.ReadFault xs h = requests_go set peer m h.0.requests h.0.out n xs h.0.ran
connection_goes set peer m n c d conn_end.WriteFault xs h =
    last_goes set peer m h.0.middle n h.0.requests h.0.out h.0.before h.0.last h.0.text relayed.WriteFault h.0.x xs h.0.ran h.0.cut h.0.exchanges_are
connection_goes set peer m n c d conn_end.BackendCut xs h = broken_goes set peer m n c d relayed.BackendCut xs h
connection_goes set peer m n c d conn_end.StreamSpent xs h = broken_goes set peer m n c d relayed.StreamSpent xs h
connection_goes set peer m n c d conn_end.NumbersSpent xs h = requests_go set peer m h.requests h.out n xs h.ran
connection_goes set peer m n c d conn_end.NoMemory xs h =
    subst (λ (ys : List Exchange). Goes set m ys n) (sym h.exchanges_are)
    (goes_join set m h.middle n h.before h.last (requests_go set peer m h.requests h.out h.middle h.before h.ran)
    (halts_go set peer c.left h.requests h.middle n h.so_far d.written (Rose c.write_faults d.write_faults) h.last h.halts))

door_goes : {C : Type 0} → (tells : C → ConnTells) (set : Settings) (m : BayState) (all : List (ServedConn C)) (n : BayState)
    → Ran tells set m all n → Goes set m (exchanges_of all) n
door_goes tells set m [] n r =
    goes_none set m n (ap (λ (s : BayState). s.boot) r) (ap (λ (s : BayState). s.lanes.bay) r) (ap (λ (s : BayState). s.number) r)
door_goes tells set m (s ∷ more) n r =
    goes_join set m r.0 n s.exchanges (exchanges_of more)
    (connection_goes set (tells s.conn).peer m r.0 (tells s.conn).state (tells s.back).state s.end s.exchanges r.1) (door_goes tells set r.0 more n r.2)

pub door_noted : {C : Type 0} → (tells : C → ConnTells) (set : Settings) (m : BayState) (all : List (ServedConn C)) (n : BayState)
    → Ran tells set m all n → AreNoted set m.boot m.lanes.bay m.number (exchanges_of all)
door_noted tells set m all n r = (door_goes tells set m all n r).noted
