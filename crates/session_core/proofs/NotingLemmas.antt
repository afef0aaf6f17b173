-- An exchange that is noted.
use Rattle.std.proofs.Common.{◌≡◌, ◌≤◌, ◌+◌, ◌⊎◌, ℕ, Bool, true, false, if◌then◌else◌, List, [], ◌∷◌, ◌++◌, Option, refl, sym, ap, subst, ◌∙◌, arith, append_assoc, append-nil, inl, inr}
use Rattle.std.specs.Prelude.{Result, Ok, Err, OnErr, OnOk, IfOk}
use Rattle.apiservice_rows.specs.Row.{Row}
use Rattle.apiservice_table.specs.declared.change.Change.{Change}
use Rattle.audit_core.specs.Answer as answer
use Rattle.audit_core.specs.Errand.{errand_in, attributes_in}
use Rattle.audit_core.specs.Exchange.{KeepsRequest, decision_in, facts_by, sent_body}
use Rattle.audit_core.specs.Offers.{Due, offers_due, has_refused}
use Rattle.audit_core.specs.Owed.{owed, omits}
use Rattle.audit_core.specs.Routing.{Decides}
use Rattle.audit_core.specs.declared.answered.Answered.{Answered}
use Rattle.audit_core.specs.declared.errand.Errand.{Errand}
use Rattle.audit_core.specs.declared.errand.Errand.TheVariants as errand
use Rattle.audit_core.specs.declared.offers.OfferNote.{OfferNote}
use Rattle.audit_core.specs.declared.routed.Handling.{Handling}
use Rattle.audit_core.specs.declared.routed.Handling.TheVariants.{Refused, Served as ServedHere, Proxied}
use Rattle.audit_core.specs.declared.routed.Routed.{Routed}
use Rattle.audit_core.specs.declared.settings.Settings.{Settings}
use Rattle.audit_core.specs.declared.stamp.Stamp.{Stamp}
use Rattle.body_frames.specs.declared.frame.Frame.{Frame}
use Rattle.event_offers.specs.Lanes.{LanesState}
use Rattle.event_offers.specs.Offering.{Noted, OffersAll, stage_events, started_events, events_by}
use Rattle.exchange_replies.specs.Sent.{is_head, DialState}
use Rattle.exchange_replies.specs.Streams.{Came, once, streamed, link_of, Comes, IsKeptBy, WritesPart, WritesTo}
use Rattle.fact_ranges.specs.InRange.{AreInRange}
use Rattle.front_base.specs.AuditId.{AuditId}
use Rattle.front_base.specs.declared.level.Level.{Level}
use Rattle.front_base.specs.declared.memory.NoMemory.{NoMemory}
use Rattle.front_base.specs.declared.stage.Stage.TheVariants.{RequestReceived, ResponseComplete}
use Rattle.front_ports.specs.Cause.{Rose}
use Rattle.front_ports.specs.Told.{Grows, Adds}
use Rattle.front_ports.specs.Wishes.{GivesWish}
use Rattle.http_edge.specs.declared.request.Request.{Request}
use Rattle.http_head.specs.declared.reply.ReplyHead.{ReplyHead}
use Rattle.policy_rules.specs.declared.decision.Decision.{Decision}
use Rattle.session_core.specs.Bays.{BayState, Recording, next_id}
use Rattle.session_core.specs.Closing.{MayWish, closes, tag_by}
use Rattle.session_core.specs.Exchange.{ExchangedTo, AnsweredBy, Halted, IsTimed, IsTimedSoFar, WasRead, arrival_due, answered_of, errand_after, is_long, moments_by, unrouted}
use Rattle.session_core.specs.Parts.{AnsweredTo, AnswerHalts, AnswerHaltsAt, Handled, HandleHalts, HaltsAtEnd, HaltsBeforeEnd, IsStartedBy, IsTimedBy, Outcomes, SendHalts, StageOffered, end_due, known_facts, later_moments, object_show, outcome_of, ReplyHaltsAt, sending, start_due}
use Rattle.session_core.specs.Steps.{Arrived, WorkState, exchange_of, first_facts, first_work, linked, stamp_at, with_start}
use Rattle.session_core.specs.declared.begun.Begun.{Begun}
use Rattle.session_core.specs.declared.exchange.Exchange.{Exchange}
use Rattle.session_core.specs.declared.session.Outcome.{Outcome}
use Rattle.session_core.specs.declared.session.Outcome.TheVariants as outcome
use Rattle.session_core.proofs.ChainLemmas.{grows_join, Join, noted_join}
use Rattle.stage_event.specs.Begun.{filled}
use Rattle.stage_event.specs.Events.{event}
use Rattle.stage_event.specs.Kept.{IsKeptAs}
use Rattle.stage_event.specs.declared.event.Event.{Event}
use Rattle.stage_event.specs.declared.facts.Facts.{Facts}
use Rattle.stage_event.specs.declared.facts.Kept.{Kept}
use Rattle.stage_event.specs.declared.facts.Kept.TheVariants.{NotAsked}
use Rattle.stream_relay.specs.Stream.{body_in}
use Rattle.stream_relay.specs.declared.stream.Relayed.{Relayed}
use Rattle.stream_relay.specs.declared.stream.Relayed.TheVariants as relayed

-- ---- what is owed, by stages

-- the event of the arrival doesn't depend on what is known later
abbrev pub HidesLater : Type 0
HidesLater = (level : Level) (facts : Facts) (status started complete : ℕ) (request reply : Kept)
    → event RequestReceived level (filled status request reply started complete facts) ≡ event RequestReceived level facts

abbrev pub Stages : Type 0
Stages = (d : Decision) (facts : Facts)
    → owed d facts ≡ stage_events d facts RequestReceived ++ (started_events d facts ++ stage_events d facts ResponseComplete)

abbrev pub DueOfBoth : Type 0
DueOfBoth = (set : Settings) (these those : List Event) → offers_due set (these ++ those) ≡ offers_due set these ++ offers_due set those

after_same : (set : Settings) (own : Errand) (a b : List OfferNote) → has_refused set b ≡ has_refused set a
    → errand_after set a own ≡ errand_after set b own
after_same set own a b e = ap (λ t. if t then errand.Refuse 500 else own) (sym e)

-- the first offers and those after them
offered_join : Join → (xs ys : List Due) (m k n : LanesState) (b c : List OfferNote) → Noted xs m [] k b → Noted ys k b n c
    → OffersAll (xs ++ ys) m c n
offered_join join xs ys m k n b c h g =
    let all = noted_join join xs ys m k n [] b c h g in
    subst (λ (l : List OfferNote). OffersAll (xs ++ ys) m l n) (sym all.new_is) all.offered

offered_first : (xs : List Due) (m n : LanesState) (b : List OfferNote) → Noted xs m [] n b → OffersAll xs m b n
offered_first xs m n b h = subst (λ (l : List OfferNote). OffersAll xs m l n) (sym h.new_is) h.offered

-- ---- its moments

moments_are : (long : Bool) (stamp : Stamp) → moments_by long stamp ≡ stamp.received ∷ later_moments long stamp.started stamp.complete
moments_are true stamp = refl
moments_are false stamp = refl

module _ (m : BayState) (id : AuditId) (peer : List ℕ) (last : ℕ) (given : Option (List ℕ)) (grows : Grows m.given given (last ∷ [])) (le : m.last ≤ last) (lanes : LanesState)
    (b : Recording) where
  abbrev pub stamped : ℕ → ℕ → Stamp
  stamped started complete = record { id = id; peer = peer; received = last; started = started; complete = complete }

  starts_late : (long : Bool) (start : ℕ) → (long ≡ true → last ≤ start) → (long ≡ false → start ≡ last) → last ≤ start
  starts_late true start f g = f refl
  starts_late false start f g = omega (arith, g refl)

  ends_late : (long : Bool) (start end : ℕ) → (long ≡ false → start ≡ last) → last ≤ b.last → end ≡ b.last → (long ≡ true → start ≤ b.last) → start ≤ end
  ends_late true start end g i e f = omega (arith, f refl, e)
  ends_late false start end g i e f = omega (arith, g refl, e, i)

  pub timed_whole : (long : Bool) (start end : ℕ) (n : BayState) → n.given ≡ b.given → n.last ≡ b.last
      → IsTimedBy long (record { lanes = lanes; last = last; given = given }) b last start end → IsTimed long m n (stamped start end)
  timed_whole long start end n eg el t = record {
    given = subst (Grows m.given n.given) (sym (moments_are long (stamped start end)))
        (subst (λ (o : Option (List ℕ)). Grows m.given o (last ∷ later_moments long start end)) (sym eg)
        (grows_join m.given given b.given (last ∷ []) (later_moments long start end) grows t.given));
    received = le;
    started = starts_late long start t.started t.short;
    complete = ends_late long start end t.short t.later t.complete t.between;
    last = el ∙ sym t.complete;
    short = t.short;
  }

  pub timed_start : (long : Bool) (start : ℕ) (n : BayState) → n.given ≡ b.given → n.last ≡ b.last
      → IsStartedBy long (record { lanes = lanes; last = last; given = given }) b last start → IsTimedSoFar long m n (stamped start last)
  timed_start true start n eg el t = record {
    given = subst (λ (o : Option (List ℕ)). Grows m.given o (last ∷ start ∷ [])) (sym eg)
        (grows_join m.given given b.given (last ∷ []) (start ∷ []) grows t.0);
    received = le;
    later = t.2;
    last = el ∙ t.1;
    unstarted = λ e. absurd (cc e);
    endless = refl;
  }
  timed_start false start n eg el t = record {
    given = subst (λ (o : Option (List ℕ)). Grows m.given o (last ∷ [])) (sym (eg ∙ t.0)) grows;
    received = le;
    later = omega (arith, t.2);
    last = el ∙ t.1 ∙ sym t.2;
    unstarted = λ e. t.2;
    endless = refl;
  }

  pub timed_arrival : (n : BayState) → n.given ≡ given → n.last ≡ last → IsTimedSoFar false m n (stamped last last)
  timed_arrival n eg el = record {
    given = subst (λ (o : Option (List ℕ)). Grows m.given o (last ∷ [])) (sym eg) grows;
    received = le;
    later = omega arith;
    last = el;
    unstarted = λ e. refl;
    endless = refl;
  }

-- ---- one that arrived at a moment of the clock

module _ (join : Join) (hides : HidesLater) (stages : Stages) (both : DueOfBoth) (set : Settings) (peer : List ℕ) (r : Request) (m : BayState)
    (last : ℕ) (given : Option (List ℕ)) (kept : Kept) (kept_is : KeepsRequest (decision_in set r) (attributes_in set r) r kept)
    (grows : Grows m.given given (last ∷ [])) (le : m.last ≤ last)
    (op : List Row) (seen : List Change) (own : List (ℕ × Change)) (l1 : LanesState) (nn : Option (List Exchange)) (op_is : op ≡ m.opening) (read : WasRead r) where
  -- what it began with
  abbrev pub w : WorkState
  w = first_work (decision_in set r) (first_facts set (stamp_at peer m last) r kept)

  -- what is known of it after the offers of its arrival
  abbrev pub offered : List OfferNote → WorkState
  offered notes = record w { notes = notes }

  abbrev pub first : Recording
  first = record { lanes = l1; last = last; given = given }

  -- the bay in the end
  abbrev pub bay : DialState → Recording → BayState
  bay dial b = record {
    boot = m.boot;
    number = m.number + 1;
    opening = op;
    seen = seen;
    own = own;
    dial = dial;
    lanes = b.lanes;
    last = b.last;
    given = b.given;
    notes = nn;
  }

  abbrev pub Handles : WorkState → Routed → Type 0
  Handles a routed = Handled set (errand_in set r last) m.opening m.seen m.own m.lanes w seen own l1 a routed

  -- what its arrival is due, whatever is known of it later
  due_first : (facts : Facts) (status started complete : ℕ) (reply : Kept)
      → facts ≡ filled status w.facts.request reply started complete w.facts
      → offers_due set (stage_events w.decision w.facts RequestReceived) ≡ offers_due set (stage_events w.decision facts RequestReceived)
  due_first facts status started complete reply is =
      ap (λ e. offers_due set (events_by w.decision.level (omits w.decision.omit RequestReceived) e))
      (sym (hides w.decision.level w.facts status started complete w.facts.request reply)
      ∙ ap (λ f. event RequestReceived w.decision.level f) (sym is))

  due_all : (facts : Facts)
      → offers_due set (owed w.decision facts)
      ≡ offers_due set (stage_events w.decision facts RequestReceived) ++ (start_due set w.decision facts ++ end_due set w.decision facts)
  due_all facts =
      ap (offers_due set) (stages w.decision facts)
      ∙ both set (stage_events w.decision facts RequestReceived) (started_events w.decision facts ++ stage_events w.decision facts ResponseComplete)
      ∙ ap (λ l. offers_due set (stage_events w.decision facts RequestReceived) ++ l)
      (both set (started_events w.decision facts) (stage_events w.decision facts ResponseComplete))

  adds_of : (x y : Exchange) → x ≡ y → Adds m.notes nn (x ∷ []) → Adds m.notes nn (y ∷ [])
  adds_of x y e h = subst (λ (z : Exchange). Adds m.notes nn (z ∷ [])) e h

  -- ---- what is known of its reply

  -- a reply that streamed came from a backend
  body_same : (handling : Handling) (long : Bool) (x y : DialState) (head : ReplyHead) (frame : Frame) (after : List ℕ)
      → Comes (is_head r) long (sending r handling w) x y (streamed head frame after)
      → answer.body_of handling (link_of (streamed head frame after)) (body_in frame after) ≡ body_in frame after
  body_same (Refused code) long x y head frame after h = absurd h
  body_same (ServedHere local reply change) long x y head frame after h = absurd h
  body_same (Proxied target) long x y head frame after h = refl

  answered_by : (handling : Handling) (long : Bool) (x y : DialState) (came : Came) (end : Relayed) (stamp : Stamp) (own : Answered)
      → Comes (is_head r) long (sending r handling w) x y came
      → own.handling ≡ handling → own.decision ≡ decision_in set r
      → KeepsRequest (decision_in set r) (attributes_in set r) r own.facts.request
      → IsKeptBy r handling (object_show w) came end own.facts.reply
      → own.facts ≡ facts_by stamp r (attributes_in set r) (answer.status_of handling (link_of came)) own.facts.request own.facts.reply
      → AnsweredBy set stamp r handling came end own
  answered_by handling long x y (once reached) end stamp own c h d q k f =
      record { handling_is = h; decision_is = d; facts_are = record { request_is = q; reply_is = k; facts_are = f } }
  answered_by handling long x y (streamed head frame after) relayed.Done stamp own c h d q k f =
      record {
        handling_is = h;
        decision_is = d;
        facts_are = record {
          request_is = q;
          reply_is = subst (λ l. IsKeptAs (object_show w) (sent_body r.head.method l) own.facts.reply)
              (sym (body_same handling long x y head frame after c)) k;
          facts_are = f;
        };
      }
  answered_by handling long x y (streamed head frame after) relayed.BackendCut stamp own c h d q k f =
      record { handling_is = h; decision_is = d; request_is = q; reply_is = k; facts_are = f }
  answered_by handling long x y (streamed head frame after) relayed.StreamSpent stamp own c h d q k f =
      record { handling_is = h; decision_is = d; request_is = q; reply_is = k; facts_are = f }
  answered_by handling long x y (streamed head frame after) relayed.WriteFault stamp own c h d q k f =
      record { handling_is = h; decision_is = d; request_is = q; reply_is = k; facts_are = f }

  -- ---- it was answered

  module _ (routed : Routed) (a v : WorkState) (h : Handles a routed) (dial : DialState) (b : Recording) (w0 w1 : Option (List ℕ)) (rose : Type 0)
      (adds : Adds m.notes nn (exchange_of r routed v ∷ [])) (range : AreInRange v.facts) where
    in_range_by : (t : WorkState) → v ≡ t → AreInRange t.facts
    in_range_by t e = subst (λ (own : WorkState). AreInRange own.facts) e range

    decides_by : has_refused set v.notes ≡ has_refused set a.notes
        → Decides set.endpoints (errand_after set v.notes (errand_in set r last)) m.opening m.seen m.own seen own routed
    decides_by e =
        subst (λ (x : Errand). Decides set.endpoints x m.opening m.seen m.own seen own routed) (after_same set (errand_in set r last) a.notes v.notes e) h.decides

    -- the facts in the end
    abbrev pub final : Came → Kept → ℕ → ℕ → Facts
    final came reply started complete = known_facts reply started complete (linked routed.handling (link_of came) false w).facts

    abbrev pub noted_as : Came → Bool → Facts → WorkState
    noted_as came wished facts = record {
      decision = decision_in set r;
      facts = facts;
      link = link_of came;
      notes = v.notes;
      wished = wished;
    }

    offered_all : (came : Came) (facts : Facts) (status started complete : ℕ) (reply : Kept) (due : List Due)
        → facts ≡ filled status w.facts.request reply started complete w.facts → Noted due l1 a.notes b.lanes v.notes
        → OffersAll (offers_due set (stage_events w.decision facts RequestReceived) ++ due) m.lanes v.notes b.lanes
    offered_all came facts status started complete reply due is g =
        subst (λ (l : List Due). OffersAll (l ++ due) m.lanes v.notes b.lanes) (due_first facts status started complete reply is)
        (offered_join join (offers_due set (stage_events w.decision w.facts RequestReceived)) due m.lanes l1 b.lanes a.notes v.notes h.offered.noted g)

    exchanged : (end : Relayed) → AnsweredTo set r routed.handling m.dial dial first (offered a.notes) b v w0 w1 rose end
        → (text : List ℕ) × (x : Exchange) × ExchangedTo set peer r m text (bay dial b) end x × WritesTo w0 w1 text rose end
        × (x.wished ≡ v.wished)
    exchanged end s =
        let facts = final s.came s.kept s.started s.complete in
        let x : Exchange = exchange_of r routed (noted_as s.came s.wished facts) in
        let stamp : Stamp = record { id = next_id m; peer = peer; received = last; started = s.started; complete = s.complete } in (
          s.text,
          x,
          record {
            request_is = refl;
            read = read;
            routed = decides_by s.refuses;
            came = s.came;
            sent = s.comes;
            link_is = refl;
            stamp = stamp;
            id_is = refl;
            peer_is = refl;
            timed = timed_whole m (next_id m) peer last given grows le l1 b (is_long r) s.started s.complete (bay dial b) refl refl s.timed;
            answered = answered_by routed.handling (is_long r) m.dial dial s.came end stamp (answered_of x) s.comes refl refl kept_is s.kept_is refl;
            in_range = in_range_by (noted_as s.came s.wished facts) s.work_is;
            offered = subst (λ (l : List Due). OffersAll l m.lanes v.notes b.lanes) (sym (due_all facts))
                (offered_all s.came facts (answer.status_of routed.handling (link_of s.came)) s.started s.complete s.kept
                (start_due set w.decision facts ++ end_due set w.decision facts) refl s.noted);
            text_is = s.replies;
            noted = adds_of (exchange_of r routed v) x (ap (exchange_of r routed) s.work_is) adds;
            number_is = refl;
            boot_is = refl;
            opening_is = op_is;
          },
          s.writes,
          sym (ap (λ (t : WorkState). t.wished) s.work_is),
        )

    -- ---- memory ran out after it was handled

    sending_halted : SendHalts r routed.handling m.dial dial first (offered a.notes) b v w0 w1
        → (x : Exchange) × Halted set peer r m (bay dial b) w0 w1 rose x × (x.wished ≡ v.wished)
    sending_halted s =
        let notes : v.notes ≡ a.notes = ap (λ (t : WorkState). t.notes) s.work_is in
        let lanes : b.lanes ≡ l1 = ap (λ (t : Recording). t.lanes) s.same in
        let x : Exchange = exchange_of r routed (offered v.notes) in
        let due = arrival_due set x in (
          x,
          record {
            request_is = refl;
            read = read;
            begun = record { stamp = stamp_at peer m last; id_is = refl; peer_is = refl; decision_is = refl; request_is = kept_is; facts_are = refl };
            in_range = in_range_by (offered a.notes) s.work_is;
            due = due;
            rest = start_due set w.decision w.facts ++ end_due set w.decision w.facts;
            due_is = due_all w.facts;
            offered = subst (λ (l : LanesState). OffersAll due m.lanes v.notes l) (sym lanes)
                (subst (λ (l : List OfferNote). OffersAll due m.lanes l l1) (sym notes) (offered_first due m.lanes l1 a.notes h.offered.noted));
            stopped = inr (inl (record {
              routed = decides_by (ap (has_refused set) notes);
              sent = s.sent_is;
              no_reply = record {
                status_is = refl;
                reply_is = refl;
                link_is = refl;
                wished_is = refl;
                timed = timed_arrival m (next_id m) peer last given grows le l1 b (bay dial b) (ap (λ (t : Recording). t.given) s.same) (ap (λ (t : Recording). t.last) s.same);
                written = s.written;
              };
              due_is = refl;
            }));
            noted = adds_of (exchange_of r routed v) x
                (ap (exchange_of r routed) (s.work_is ∙ ap offered (sym notes))) adds;
            number_is = refl;
            boot_is = refl;
            opening_is = op_is;
          },
          sym (ap (λ (t : WorkState). t.wished) s.work_is),
        )

    module _ (came : Came) (wished : Bool) (comes : Comes (is_head r) (is_long r) (sending r routed.handling w) m.dial dial came)
        (refuses : has_refused set v.notes ≡ has_refused set a.notes) where
      abbrev pub faulty : Type 0
      faulty = Rose m.dial.link_faults dial.link_faults

      abbrev pub linked_work : WorkState
      linked_work = linked routed.handling (link_of came) wished (offered a.notes)

      before_end : HaltsBeforeEnd set r routed.handling came faulty first linked_work b v w0 w1
          → (x : Exchange) × Halted set peer r m (bay dial b) w0 w1 rose x × (x.wished ≡ v.wished)
      before_end s =
          let facts = with_start s.started linked_work.facts in
          let x : Exchange = exchange_of r routed (noted_as came wished facts) in
          let stamp : Stamp = record { id = next_id m; peer = peer; received = last; started = s.started; complete = last } in
          let all = by s facts refl s.written in (
            x,
            record {
              request_is = refl;
              read = read;
              begun = record { stamp = stamp; id_is = refl; peer_is = refl; decision_is = refl; request_is = kept_is; facts_are = refl };
              in_range = in_range_by (noted_as came wished facts) s.work_is;
              due = arrival_due set x ++ s.due;
              rest = all.0;
              due_is = due_all facts ∙ ap (λ l. arrival_due set x ++ l) all.1 ∙ sym (append_assoc (arrival_due set x) s.due all.0);
              offered = offered_all came facts (answer.status_of routed.handling (link_of came)) s.started last NotAsked s.due refl s.noted;
              stopped = inr (inr (record {
                routed = decides_by refuses;
                came = came;
                sent = comes;
                link_is = refl;
                status_is = refl;
                where_is = inl (record {
                  reply_is = refl;
                  timed = timed_start m (next_id m) peer last given grows le l1 b (is_long r) s.started (bay dial b) refl refl s.timed;
                  written = all.2;
                });
              }));
              noted = adds_of (exchange_of r routed v) x (ap (exchange_of r routed) s.work_is) adds;
              number_is = refl;
              boot_is = refl;
              opening_is = op_is;
            },
            sym (ap (λ (t : WorkState). t.wished) s.work_is),
          )
        where
          -- what was not offered
          by : (s : HaltsBeforeEnd set r routed.handling came faulty first linked_work b v w0 w1) (facts : Facts)
              → facts ≡ with_start s.started linked_work.facts
              → ((s.due ≡ []) × (w1 ≡ w0)) ⊎ ((s.due ≡ start_due set w.decision (with_start s.started linked_work.facts)) × WritesPart r (tag_by r (next_id m) wished) routed.handling faulty came w0 w1)
              → (rest : List Due) × (start_due set w.decision facts ++ end_due set w.decision facts ≡ s.due ++ rest)
              × (((offers_due set (stage_events w.decision facts RequestReceived) ++ s.due ≡ offers_due set (stage_events w.decision facts RequestReceived)) × (w1 ≡ w0))
              ⊎ ((offers_due set (stage_events w.decision facts RequestReceived) ++ s.due ≡ offers_due set (stage_events w.decision facts RequestReceived) ++ start_due set w.decision facts)
              × WritesPart r (tag_by r (next_id m) wished) routed.handling faulty came w0 w1))
          by s facts is (inl q) = (
            start_due set w.decision facts ++ end_due set w.decision facts,
            ap (λ l. l ++ (start_due set w.decision facts ++ end_due set w.decision facts)) (sym q.0),
            inl (ap (λ l. offers_due set (stage_events w.decision facts RequestReceived) ++ l) q.0 ∙ append-nil (offers_due set (stage_events w.decision facts RequestReceived)), q.1),
          )
          by s facts is (inr q) =
              let e : s.due ≡ start_due set w.decision facts = q.0 ∙ ap (start_due set w.decision) (sym is) in (
                end_due set w.decision facts,
                ap (λ l. l ++ end_due set w.decision facts) (sym e),
                inr (ap (λ l. offers_due set (stage_events w.decision facts RequestReceived) ++ l) e, q.1),
              )

      at_end : HaltsAtEnd set r routed.handling came faulty first linked_work b v w0 w1 rose
          → (x : Exchange) × Halted set peer r m (bay dial b) w0 w1 rose x × (x.wished ≡ v.wished)
      at_end s =
          let facts = final came s.kept s.started s.complete in
          let x : Exchange = exchange_of r routed (noted_as came wished facts) in
          let stamp : Stamp = record { id = next_id m; peer = peer; received = last; started = s.started; complete = s.complete } in
          let starts = start_due set w.decision facts in (
            x,
            record {
              request_is = refl;
              read = read;
              begun = record { stamp = stamp; id_is = refl; peer_is = refl; decision_is = refl; request_is = kept_is; facts_are = refl };
              in_range = in_range_by (noted_as came wished facts) s.work_is;
              due = arrival_due set x ++ starts;
              rest = end_due set w.decision facts;
              due_is = due_all facts ∙ sym (append_assoc (arrival_due set x) starts (end_due set w.decision facts));
              offered = offered_all came facts (answer.status_of routed.handling (link_of came)) s.started s.complete s.kept starts refl s.noted;
              stopped = inr (inr (record {
                routed = decides_by refuses;
                came = came;
                sent = comes;
                link_is = refl;
                status_is = refl;
                where_is = inr (record {
                  end = s.end;
                  text = s.text;
                  text_is = s.replies;
                  written = s.writes;
                  answered = answered_by routed.handling (is_long r) m.dial dial came s.end stamp (answered_of x) comes refl refl kept_is s.kept_is refl;
                  timed = timed_whole m (next_id m) peer last given grows le l1 b (is_long r) s.started s.complete (bay dial b) refl refl s.timed;
                  due_is = refl;
                });
              }));
              noted = adds_of (exchange_of r routed v) x (ap (exchange_of r routed) s.work_is) adds;
              number_is = refl;
              boot_is = refl;
              opening_is = op_is;
            },
            sym (ap (λ (t : WorkState). t.wished) s.work_is),
          )

    answer_halted : AnswerHalts set r routed.handling m.dial dial first (offered a.notes) b v w0 w1 rose
        → (x : Exchange) × Halted set peer r m (bay dial b) w0 w1 rose x × (x.wished ≡ v.wished)
    answer_halted (inl s) = sending_halted s
    answer_halted (inr s) = by s s.halts
      where
        by : (s : AnswerHaltsAt set r routed.handling m.dial dial first (offered a.notes) b v w0 w1 rose)
            → ReplyHaltsAt set r routed.handling s.came (Rose m.dial.link_faults dial.link_faults) first (linked routed.handling (link_of s.came) s.wished (offered a.notes)) b v w0 w1 rose
            → (x : Exchange) × Halted set peer r m (bay dial b) w0 w1 rose x × (x.wished ≡ v.wished)
        by s (e, inl q) = before_end s.came s.wished s.comes e q
        by s (e, inr q) = at_end s.came s.wished s.comes e q

  -- ---- memory ran out before it was handled

  undecided : (v : WorkState) (w0 : Option (List ℕ)) (rose : Type 0) → HandleHalts set m.seen m.own m.lanes w seen own l1 v
      → Adds m.notes nn (exchange_of r unrouted v ∷ []) → AreInRange v.facts
      → (x : Exchange) × Halted set peer r m (bay m.dial first) w0 w0 rose x × (x.wished ≡ false)
  undecided v w0 rose s adds range = by s.offered
    where
      by : ((l1 ≡ m.lanes) × (v ≡ w)) ⊎ StageOffered set RequestReceived m.lanes w l1 v
          → (x : Exchange) × Halted set peer r m (bay m.dial first) w0 w0 rose x × (x.wished ≡ false)
      by (inl q) =
          let x : Exchange = exchange_of r unrouted w in (
            x,
            record {
              request_is = refl;
              read = read;
              begun = record { stamp = stamp_at peer m last; id_is = refl; peer_is = refl; decision_is = refl; request_is = kept_is; facts_are = refl };
              in_range = subst (λ (t : WorkState). AreInRange t.facts) q.1 range;
              due = [];
              rest = offers_due set (owed w.decision w.facts);
              due_is = refl;
              offered = (refl, q.0);
              stopped = inl (record {
                routed_is = refl;
                later = s.later;
                own_is = s.own_is;
                dial_is = refl;
                no_reply = record {
                  status_is = refl;
                  reply_is = refl;
                  link_is = refl;
                  wished_is = refl;
                  timed = timed_arrival m (next_id m) peer last given grows le l1 first (bay m.dial first) refl refl;
                  written = refl;
                };
                due_is = inl refl;
              });
              noted = adds_of (exchange_of r unrouted v) x (ap (exchange_of r unrouted) q.1) adds;
              number_is = refl;
              boot_is = refl;
              opening_is = op_is;
            },
            refl,
          )
      by (inr q) =
          let x : Exchange = exchange_of r unrouted (offered v.notes) in (
            x,
            record {
              request_is = refl;
              read = read;
              begun = record { stamp = stamp_at peer m last; id_is = refl; peer_is = refl; decision_is = refl; request_is = kept_is; facts_are = refl };
              in_range = subst (λ (t : WorkState). AreInRange t.facts) q.work_is range;
              due = arrival_due set x;
              rest = start_due set w.decision w.facts ++ end_due set w.decision w.facts;
              due_is = due_all w.facts;
              offered = offered_first (arrival_due set x) m.lanes l1 v.notes q.noted;
              stopped = inl (record {
                routed_is = refl;
                later = s.later;
                own_is = s.own_is;
                dial_is = refl;
                no_reply = record {
                  status_is = refl;
                  reply_is = refl;
                  link_is = refl;
                  wished_is = refl;
                  timed = timed_arrival m (next_id m) peer last given grows le l1 first (bay m.dial first) refl refl;
                  written = refl;
                };
                due_is = inr refl;
              });
              noted = adds_of (exchange_of r unrouted v) x (ap (exchange_of r unrouted) q.work_is) adds;
              number_is = refl;
              boot_is = refl;
              opening_is = op_is;
            },
            refl,
          )

  -- ---- as results tell them

  abbrev pub Ends : DialState → Recording → Option (List ℕ) → Option (List ℕ) → Type 0 → Option (List Bool) → Option (List Bool)
      → Result Relayed NoMemory → Bool → Type 0
  Ends dial b w0 w1 rose v0 v1 res closing = Outcomes set peer r m (bay dial b) w0 w1 rose v0 v1 (outcome_of res closing)

  module _ (dial : DialState) (b : Recording) (w0 w1 : Option (List ℕ)) (rose : Type 0) (v0 v1 : Option (List Bool)) (wished : Bool) where
    -- what is known of what was wished is known of the exchange
    wish_of : (x : Exchange) → x.wished ≡ wished → GivesWish v0 v1 wished → GivesWish v0 v1 x.wished
    wish_of x e g = subst (GivesWish v0 v1) (sym e) g

    whole : (end : Relayed) (closing : Bool) → closing ≡ closes r wished → GivesWish v0 v1 wished
        → (text : List ℕ) × (x : Exchange) × ExchangedTo set peer r m text (bay dial b) end x × WritesTo w0 w1 text rose end × (x.wished ≡ wished)
        → Ends dial b w0 w1 rose v0 v1 (Ok end) closing
    whole relayed.Done true is g e = (e.0, e.1, e.2, e.3, wish_of e.1 e.4 g, ap (closes r) e.4 ∙ sym is)
    whole relayed.Done false is g e = (e.0, e.1, e.2, e.3, wish_of e.1 e.4 g, ap (closes r) e.4 ∙ sym is)
    whole relayed.WriteFault closing is g e = (e.0, e.1, e.2, e.3.0, e.3.1, wish_of e.1 e.4 g)
    whole relayed.BackendCut closing is g e = (e.0, e.1, e.2, e.3, wish_of e.1 e.4 g)
    whole relayed.StreamSpent closing is g e = (e.0, e.1, e.2, e.3, wish_of e.1 e.4 g)

    part : (closing before : Bool) (e : NoMemory) → before ≡ false → MayWish v0 v1 before wished
        → (x : Exchange) × Halted set peer r m (bay dial b) w0 w1 rose x × (x.wished ≡ wished)
        → Ends dial b w0 w1 rose v0 v1 (Err e) closing
    part closing before e none may h =
        inr (h.0, h.1, subst (MayWish v0 v1 false) (sym h.2) (subst (λ (o : Bool). MayWish v0 v1 o wished) none may))

  pub outcomes : (routed : Routed) (a v : WorkState) (h : Handles a routed) (dial : DialState) (b : Recording) (w0 w1 : Option (List ℕ)) (rose : Type 0)
      (v0 v1 : Option (List Bool)) → Adds m.notes nn (exchange_of r routed v ∷ []) → AreInRange v.facts → (res : Result Relayed NoMemory) (closing : Bool)
      → closing ≡ closes r v.wished
      → IfOk res (AnsweredTo set r routed.handling m.dial dial first a b v w0 w1 rose)
      → OnErr res (AnswerHalts set r routed.handling m.dial dial first a b v w0 w1 rose)
      → OnOk res (GivesWish v0 v1 v.wished) → OnErr res (MayWish v0 v1 a.wished v.wished) → Ends dial b w0 w1 rose v0 v1 res closing
  outcomes routed a v h dial b w0 w1 rose v0 v1 adds range (Ok end) closing is s f g may =
      whole dial b w0 w1 rose v0 v1 v.wished end closing is g (exchanged routed a v h dial b w0 w1 rose adds range end
      (subst (λ (t : WorkState). AnsweredTo set r routed.handling m.dial dial first t b v w0 w1 rose end) h.offered.work_is s))
  outcomes routed a v h dial b w0 w1 rose v0 v1 adds range (Err e) closing is s f g may =
      part dial b w0 w1 rose v0 v1 v.wished closing a.wished e (ap (λ (t : WorkState). t.wished) h.offered.work_is) may
      (answer_halted routed a v h dial b w0 w1 rose adds range
      (subst (λ (t : WorkState). AnswerHalts set r routed.handling m.dial dial first t b v w0 w1 rose) h.offered.work_is f))

-- ---- by what was judged

module _ (join : Join) (hides : HidesLater) (stages : Stages) (both : DueOfBoth) (set : Settings) (peer : List ℕ) (r : Request) (begun : Begun)
    (m k : BayState) (arrived : Arrived set peer r begun m k)
    (op : List Row) (seen : List Change) (own : List (ℕ × Change)) (l1 : LanesState) (nn : Option (List Exchange)) (op_is : op ≡ k.opening)
    (begins : WorkState) (begins_is : begins ≡ first_work begun.decision begun.facts) (read : WasRead r) where
  -- the bay in the end
  abbrev pub after : BayState → DialState → Recording → BayState
  after q dial b = record {
    boot = q.boot;
    number = q.number + 1;
    opening = op;
    seen = seen;
    own = own;
    dial = dial;
    lanes = b.lanes;
    last = b.last;
    given = b.given;
    notes = nn;
  }

  abbrev pub reads : Recording
  reads = record { lanes = l1; last = k.last; given = k.given }

  abbrev pub judged : WorkState
  judged = first_work (decision_in set r) (first_facts set (stamp_at peer m k.last) r arrived.is_begun.kept)

  judged_by : (P : Errand → WorkState → Type 0) → P begun.errand begins → P (errand_in set r k.last) judged
  judged_by P h =
      subst (λ (x : Begun). P x.errand (first_work x.decision x.facts)) arrived.is_begun.is
      (subst (λ (t : WorkState). P begun.errand t) begins_is h)

  pub answered_outcomes : (routed : Routed) (a v : WorkState) → Handled set begun.errand k.opening k.seen k.own k.lanes begins seen own l1 a routed
      → (dial : DialState) (b : Recording) (w0 w1 : Option (List ℕ)) (rose : Type 0) (v0 v1 : Option (List Bool))
      → Adds k.notes nn (exchange_of r routed v ∷ []) → AreInRange v.facts
      → (res : Result Relayed NoMemory) (closing : Bool) (ended : Outcome) → ended ≡ outcome_of res closing → closing ≡ closes r v.wished
      → IfOk res (AnsweredTo set r routed.handling k.dial dial reads a b v w0 w1 rose)
      → OnErr res (AnswerHalts set r routed.handling k.dial dial reads a b v w0 w1 rose)
      → OnOk res (GivesWish v0 v1 v.wished) → OnErr res (MayWish v0 v1 a.wished v.wished)
      → Outcomes set peer r m (after k dial b) w0 w1 rose v0 v1 ended
  answered_outcomes routed a v h dial b w0 w1 rose v0 v1 adds range res closing ended is closing_is s f g may =
      subst (λ (o : Outcome). Outcomes set peer r m (after k dial b) w0 w1 rose v0 v1 o) (sym is)
      (subst (λ (q : BayState). Handled set (errand_in set r k.last) q.opening q.seen q.own q.lanes judged seen own l1 a routed → Adds q.notes nn (exchange_of r routed v ∷ [])
      → op ≡ q.opening → IfOk res (AnsweredTo set r routed.handling q.dial dial reads a b v w0 w1 rose)
      → OnErr res (AnswerHalts set r routed.handling q.dial dial reads a b v w0 w1 rose)
      → Outcomes set peer r m (after q dial b) w0 w1 rose v0 v1 (outcome_of res closing))
      (sym arrived.bay_is)
      (λ h adds o s f. outcomes join hides stages both set peer r m k.last k.given arrived.is_begun.kept arrived.is_begun.kept_is arrived.given arrived.later
      op seen own l1 nn o read routed a v h dial b w0 w1 rose v0 v1 adds range res closing closing_is s f g may)
      (judged_by (λ e t. Handled set e k.opening k.seen k.own k.lanes t seen own l1 a routed) h) adds op_is s f)

  pub undecided_outcome : (v : WorkState) (w0 : Option (List ℕ)) (rose : Type 0) (v0 : Option (List Bool))
      → HandleHalts set k.seen k.own k.lanes begins seen own l1 v
      → Adds k.notes nn (exchange_of r unrouted v ∷ []) → AreInRange v.facts → Outcomes set peer r m (after k k.dial reads) w0 w0 rose v0 v0 outcome.NoMemory
  undecided_outcome v w0 rose v0 h adds range =
      subst (λ (q : BayState). HandleHalts set q.seen q.own q.lanes judged seen own l1 v → Adds q.notes nn (exchange_of r unrouted v ∷ [])
      → op ≡ q.opening → Outcomes set peer r m (after q q.dial reads) w0 w0 rose v0 v0 outcome.NoMemory)
      (sym arrived.bay_is)
      (λ h adds o.
      let all = undecided join hides stages both set peer r m k.last k.given arrived.is_begun.kept arrived.is_begun.kept_is arrived.given arrived.later
      op seen own l1 nn o read v w0 rose h adds range in
      inr (all.0, all.1, inl (refl, all.2)))
      (judged_by (λ e t. HandleHalts set k.seen k.own k.lanes t seen own l1 v) h) adds op_is
