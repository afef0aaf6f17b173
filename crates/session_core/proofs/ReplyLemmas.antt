-- The reply and the events of its start and of its end.
use Rattle.std.proofs.Common.{◌≡◌, ◌≤◌, ◌+◌, ℕ, Bool, true, false, if◌then◌else◌, List, [], ◌∷◌, ◌++◌, length, Option, refl, sym, ap, subst, ◌∙◌, arith, append-nil, inl, inr}
use Rattle.audit_core.specs.Offers.{Due, offers_due, has_refused}
use Rattle.audit_core.specs.Owed.{omits}
use Rattle.audit_core.specs.declared.offers.OfferNote.{OfferNote}
use Rattle.audit_core.specs.declared.routed.Handling.{Handling}
use Rattle.audit_core.specs.declared.settings.Settings.{Settings}
use Rattle.event_offers.specs.Lanes.{LanesState, AreLanesOf}
use Rattle.event_offers.specs.Offering.{Noted, OffersAll, stage_events, started_events, events_by, event_unless}
use Rattle.exchange_replies.specs.Sent.{DialState, is_head}
use Rattle.exchange_replies.specs.Streams.{RepliedTo, RepliedPart, GivenBack}
use Rattle.exchange_replies.specs.declared.sent_on.SentOn.{SentOn}
use Rattle.forward_link.specs.Exchange.{LinkState}
use Rattle.front_base.specs.Info.{is_long_running}
use Rattle.front_base.specs.declared.level.Level.{Level}
use Rattle.front_base.specs.declared.level.Level.TheVariants as level
use Rattle.front_base.specs.declared.stage.Stage.TheVariants.{ResponseStarted, ResponseComplete}
use Rattle.front_ports.specs.Told.{Grows}
use Rattle.http_edge.specs.declared.request.Request.{Request}
use Rattle.policy_rules.specs.declared.decision.Decision.{Decision}
use Rattle.session_core.specs.Bays.{CanOffer, Recording}
use Rattle.session_core.specs.Parts.{StartedBy, StartIsOffered, StartHalts, CompleteHalts, Started, Completed, Replied, ReplyHalts, IsStartedBy, IsTimedBy, known_facts, object_show, end_due, start_due}
use Rattle.session_core.specs.Steps.{WorkState, tag_in, with_end, with_kept, with_object, with_start}
use Rattle.session_core.proofs.ChainLemmas.{grows_join, Join, noted_join, noted_none, RefusesNone, refuses_same}
use Rattle.stage_event.specs.Begun.{filled}
use Rattle.stage_event.specs.Events.{event}
use Rattle.stage_event.specs.declared.event.Event.{Event}
use Rattle.stage_event.specs.declared.facts.Facts.{Facts}
use Rattle.stage_event.specs.declared.facts.Kept.{Kept}
use Rattle.stage_event.specs.declared.show.Show.{Show}
use Rattle.stream_relay.specs.declared.stream.Relayed.{Relayed}

-- ---- the events

-- what its start is due was offered last
start_is_offered : (set : Settings) (long : Bool) (m n : Recording) (w v : WorkState) → is_long_running w.facts.info ≡ long
    → StartedBy long set m w n v → StartIsOffered set n.lanes v
start_is_offered set false m n w v e h =
    let none : started_events v.decision v.facts ≡ [] =
    ap (λ (z : WorkState). started_events z.decision z.facts) h.1
    ∙ ap (λ (b : Bool). if b then stage_events w.decision w.facts ResponseStarted else []) e in
    record {
      before = n.lanes;
      old = v.notes;
      noted = subst (λ (l : List Event). Noted (offers_due set l) n.lanes v.notes n.lanes v.notes) (sym none) (noted_none n.lanes v.notes);
    }
start_is_offered set true m n w v e h =
    let facts = with_start n.last w.facts in
    let these : started_events v.decision v.facts ≡ stage_events w.decision facts ResponseStarted =
    ap (λ (z : WorkState). started_events z.decision z.facts) h.offered.work_is
    ∙ ap (λ (b : Bool). if b then stage_events w.decision facts ResponseStarted else []) e in
    record {
      before = m.lanes;
      old = w.notes;
      noted = subst (λ (l : List Event). Noted (offers_due set l) m.lanes w.notes n.lanes v.notes) (sym these) h.offered.noted;
    }

pub start-offered : (set : Settings) (m n : Recording) (w v : WorkState) → Started set m w n v → StartIsOffered set n.lanes v
start-offered set m n w v h = start_is_offered set (is_long_running w.facts.info) m n w v refl h

-- its moments, once its end was reached
timed_by : (long : Bool) (m k n : Recording) (before start : ℕ) → IsStartedBy long m k before start → Grows k.given n.given (n.last ∷ [])
    → k.last ≤ n.last → IsTimedBy long m n before start n.last
timed_by false m k n before start s g le = record {
  given = subst (λ (o : Option (List ℕ)). Grows o n.given (n.last ∷ [])) s.0 g;
  started = λ e. absurd (cc e);
  short = λ e. s.2;
  complete = refl;
  later = omega (arith, s.1, le);
  between = λ e. absurd (cc e);
}
timed_by true m k n before start s g le = record {
  given = grows_join m.given k.given n.given (start ∷ []) (n.last ∷ []) s.0 g;
  started = λ e. s.2;
  short = λ e. absurd (cc e);
  complete = refl;
  later = omega (arith, s.1, s.2, le);
  between = λ e. omega (arith, s.1, le);
}

-- the event of the reply's start doesn't depend on when it was complete
abbrev pub HidesEnd : Type 0
HidesEnd = (level : Level) (facts : Facts) (reply : Kept) (complete : ℕ)
    → event ResponseStarted level (filled facts.status facts.request reply facts.started complete facts)
    ≡ event ResponseStarted level facts

module _ (join : Join) (none : RefusesNone) (hides : HidesEnd) (set : Settings) where
  -- what is due at the reply's start, by whether it runs long
  abbrev pub starts : Bool → Decision → Facts → List Due
  starts long d facts = offers_due set (if long then stage_events d facts ResponseStarted else [])

  -- what the start of a reply did, whatever is kept of it and whenever it ends
  pub record Begins (long : Bool) (m : Recording) (w : WorkState) (n : Recording) (v : WorkState) : Type 0 where
    pub started : ℕ
    pub timed : IsStartedBy long m n w.facts.started started
    pub noted : (complete : ℕ) (reply : Kept) → Noted (starts long w.decision (known_facts reply started complete w.facts)) m.lanes w.notes n.lanes v.notes
    pub refuses : has_refused set v.notes ≡ has_refused set w.notes
    pub work_is : v ≡ record w { facts = with_start started w.facts; notes = v.notes }

  same_events : (d : Decision) (facts : Facts) (started complete : ℕ) (reply : Kept)
      → stage_events d (with_start started facts) ResponseStarted ≡ stage_events d (known_facts reply started complete facts) ResponseStarted
  same_events d facts started complete reply =
      ap (events_by d.level (omits d.omit ResponseStarted)) (sym (hides d.level (with_start started facts) reply complete))

  pub begins : (long : Bool) (m n : Recording) (w v : WorkState) → StartedBy long set m w n v → Begins long m w n v
  begins false m n w v h = record {
    started = w.facts.started;
    timed = (ap (λ (s : Recording). s.given) h.0, ap (λ (s : Recording). s.last) h.0, refl);
    noted = λ c reply. subst (λ (s : Recording). Noted [] m.lanes w.notes s.lanes v.notes) (sym h.0)
        (subst (λ (s : WorkState). Noted [] m.lanes w.notes m.lanes s.notes) (sym h.1) (noted_none m.lanes w.notes));
    refuses = ap (λ (s : WorkState). has_refused set s.notes) h.1;
    work_is = subst (λ (s : WorkState). s ≡ record w { facts = with_start w.facts.started w.facts; notes = s.notes }) (sym h.1) refl;
  }
  begins true m n w v h = record {
    started = n.last;
    timed = (h.given, refl, h.later);
    noted = λ c reply. subst (λ (l : List Event). Noted (offers_due set l) m.lanes w.notes n.lanes v.notes)
        (same_events w.decision w.facts n.last c reply) h.offered.noted;
    refuses = refuses_same none set w.decision (with_start n.last w.facts) ResponseStarted m.lanes n.lanes w.notes v.notes refl h.offered.noted;
    work_is = h.offered.work_is;
  }

  -- ---- the reply and the end, after the start

  module _ {K : Type 0} (state : K → LinkState) (r : Request) (handling : Handling) (sent : SentOn K) (d0 d1 : DialState) (m k : Recording)
      (w u : WorkState) (b : Begins (is_long_running w.facts.info) m w k u) (w0 w1 : Option (List ℕ)) (rose : Type 0) where
    -- memory ran out before the reply was complete
    pub halts_write : RepliedPart state r (tag_in r u) handling sent d0 d1 w0 w1 → ReplyHalts state set r handling sent d0 d1 m w k u w0 w1 rose
    halts_write t =
        let part : RepliedPart state r (tag_in r w) handling sent d0 d1 w0 w1 =
        subst (λ (s : WorkState). RepliedPart state r (tag_in r s) handling sent d0 d1 w0 w1) b.work_is t in
        record {
          came = part.came;
          comes = part.comes;
          link_is = part.link_is;
          halts = (
            b.refuses,
            inl (record {
              started = b.started;
              due = start_due set w.decision (with_start b.started w.facts);
              noted = b.noted w.facts.complete w.facts.reply;
              written = inr (refl, part.written);
              timed = b.timed;
              work_is = b.work_is;
            }),
          );
        }

    module _ (show : Show) (show_is : show ≡ object_show w) (end : Relayed) (kept : Kept)
        (t : RepliedTo state r (tag_in r u) handling show sent d0 d1 w0 w1 rose (record { end = end; kept = kept }))
        (n : Recording) (x v : WorkState) (ex : x ≡ with_object kept u) where
      abbrev pub done : ℕ → Facts
      done complete = known_facts kept b.started complete w.facts

      x_is : x ≡ record w { facts = with_kept kept (with_start b.started w.facts); notes = u.notes }
      x_is = ex ∙ ap (with_object kept) b.work_is

      to_first : RepliedTo state r (tag_in r w) handling (object_show w) sent d0 d1 w0 w1 rose (record { end = end; kept = kept })
      to_first =
          subst (λ (y : Show). RepliedTo state r (tag_in r w) handling y sent d0 d1 w0 w1 rose (record { end = end; kept = kept })) show_is
          (subst (λ (s : WorkState). RepliedTo state r (tag_in r s) handling show sent d0 d1 w0 w1 rose (record { end = end; kept = kept })) b.work_is t)

      pub replied : Completed set k x n v → Replied state set r handling sent d0 d1 m w n v w0 w1 rose end
      replied h =
          let ended : Noted (end_due set w.decision (done n.last)) k.lanes u.notes n.lanes v.notes =
          subst (λ (s : WorkState). Noted (offers_due set (stage_events s.decision (with_end n.last s.facts) ResponseComplete)) k.lanes s.notes n.lanes v.notes)
          x_is h.offered.noted in
          record {
            kept = kept;
            to = to_first;
            started = b.started;
            complete = n.last;
            noted = noted_join join (starts (is_long_running w.facts.info) w.decision (done n.last)) (end_due set w.decision (done n.last))
                m.lanes k.lanes n.lanes w.notes u.notes v.notes (b.noted n.last kept) ended;
            refuses = refuses_same none set x.decision (with_end n.last x.facts) ResponseComplete k.lanes n.lanes x.notes v.notes refl h.offered.noted
                ∙ ap (λ (s : WorkState). has_refused set s.notes) x_is ∙ b.refuses;
            timed = timed_by (is_long_running w.facts.info) m k n w.facts.started b.started b.timed h.given h.later;
            work_is = h.offered.work_is
                ∙ ap (λ (s : WorkState). let y : WorkState = record s { facts = with_end n.last s.facts; notes = v.notes } in y) x_is;
          }

      -- the reply was written, and its end was not offered
      pub halts_end : CompleteHalts k x n v → ReplyHalts state set r handling sent d0 d1 m w n v w0 w1 rose
      halts_end h =
          let notes : v.notes ≡ u.notes = ap (λ (s : WorkState). s.notes) h.work_is ∙ ap (λ (s : WorkState). s.notes) x_is in
          let all = to_first in
          record {
            came = all.came;
            comes = all.comes;
            link_is = all.link_is;
            halts = (
              ap (has_refused set) notes ∙ b.refuses,
              inr (record {
                end = end;
                text = all.text;
                replies = all.replies;
                writes = all.writes;
                kept = kept;
                kept_is = all.kept;
                started = b.started;
                complete = n.last;
                noted = subst (λ (y : LanesState). Noted (starts (is_long_running w.facts.info) w.decision (done n.last)) m.lanes w.notes y v.notes) (sym h.lanes_are)
                    (subst (λ (y : List OfferNote). Noted (starts (is_long_running w.facts.info) w.decision (done n.last)) m.lanes w.notes k.lanes y) (sym notes)
                    (b.noted n.last kept));
                timed = timed_by (is_long_running w.facts.info) m k n w.facts.started b.started b.timed h.given h.later;
                work_is = h.work_is ∙ ap (λ (s : WorkState). let y : WorkState = record s { facts = with_end n.last s.facts } in y) x_is
                    ∙ ap (λ y. let z : WorkState = record w { facts = done n.last; notes = y } in z) (sym notes);
              }),
            );
          }

  -- nothing was offered at the start, and nothing was written
  pub halts_start : {K : Type 0} (state : K → LinkState) (r : Request) (handling : Handling) (sent : SentOn K) (d0 d1 : DialState) (m k : Recording)
      (w v : WorkState) (w0 : Option (List ℕ)) (rose : Type 0) → StartHalts m w k v → GivenBack state (is_head r) sent d0 d1
      → ReplyHalts state set r handling sent d0 d1 m w k v w0 w0 rose
  halts_start state r handling sent d0 d1 m k w v w0 rose h g =
      let notes : v.notes ≡ w.notes = ap (λ (s : WorkState). s.notes) h.1.work_is in
      record {
        came = g.came;
        comes = g.comes;
        link_is = g.link_is;
        halts = (
          ap (has_refused set) notes,
          inl (record {
            started = k.last;
            due = [];
            noted = subst (λ (y : LanesState). Noted [] m.lanes w.notes y v.notes) (sym h.1.lanes_are)
                (subst (λ (y : List OfferNote). Noted [] m.lanes w.notes m.lanes y) (sym notes) (noted_none m.lanes w.notes));
            written = inl (refl, refl);
            timed = subst (λ (b : Bool). IsStartedBy b m k w.facts.started k.last) (sym h.0) (h.1.given, refl, h.1.later);
            work_is = h.1.work_is ∙ ap (λ y. let s : WorkState = record w { facts = with_start k.last w.facts; notes = y } in s) (sym notes);
          }),
        );
      }

-- ---- more may be offered

abbrev pub Stay : Type 0
Stay = (set : Settings) (dues : List Due) (m n : LanesState) (notes : List OfferNote)
    → OffersAll dues m notes n → AreLanesOf set m → AreLanesOf set n

abbrev pub FewLog : Type 0
FewLog = (set : Settings) (events : List Event) (due rest : List Due) (m n : LanesState) (notes : List OfferNote)
    → offers_due set events ≡ due ++ rest → OffersAll due m notes n → n.log.lines ≤ m.log.lines + length events

abbrev pub FewHook : Type 0
FewHook = (set : Settings) (events : List Event) (due rest : List Due) (m n : LanesState) (notes : List OfferNote)
    → offers_due set events ≡ due ++ rest → OffersAll due m notes n → n.hook.lines ≤ m.hook.lines + length events

one_unless : (omitted : Bool) (own : Event) → length (event_unless omitted own) ≤ 1
one_unless true own = omega arith
one_unless false own = omega arith

pub one_by : (l : Level) (omitted : Bool) (own : Event) → length (events_by l omitted own) ≤ 1
one_by level.None omitted own = omega arith
one_by level.Metadata omitted own = one_unless omitted own
one_by level.Request omitted own = one_unless omitted own
one_by level.RequestResponse omitted own = one_unless omitted own

pub one_if : (long : Bool) (events : List Event) → length events ≤ 1 → length (if long then events else []) ≤ 1
one_if true events h = h
one_if false events h = omega arith

-- after the offers of one stage at most
pub may_after : Stay → FewLog → FewHook → (set : Settings) (more : ℕ) (m n : LanesState) (events : List Event) (a b : List OfferNote)
    → length events ≤ 1 → CanOffer set m (more + 1) → Noted (offers_due set events) m a n b → CanOffer set n more
may_after stay log hook set more m n events a b one h o = record {
  max = h.max;
  lanes = stay set (offers_due set events) m n o.more o.offered h.lanes;
  log = omega (arith, h.log, one, log set events (offers_due set events) [] m n o.more (sym (append-nil (offers_due set events))) o.offered);
  hook = omega (arith, h.hook, one, hook set events (offers_due set events) [] m n o.more (sym (append-nil (offers_due set events))) o.offered);
}

pub may_first : (set : Settings) (m : LanesState) → CanOffer set m 2 → CanOffer set m 1
may_first set m h = record { max = h.max; lanes = h.lanes; log = omega (arith, h.log); hook = omega (arith, h.hook) }

pub may_end : Stay → FewLog → FewHook → (join : Join) (none : RefusesNone) (hides : HidesEnd) (set : Settings) (m k : Recording) (w u : WorkState)
    → CanOffer set m.lanes 2 → Begins join none hides set (is_long_running w.facts.info) m w k u → CanOffer set k.lanes 1
may_end stay log hook join none hides set m k w u h b =
    may_after stay log hook set 1 m.lanes k.lanes _ w.notes u.notes
    (one_if (is_long_running w.facts.info) _
    (one_by w.decision.level (omits w.decision.omit ResponseStarted) (event ResponseStarted w.decision.level (known_facts w.facts.reply b.started 0 w.facts))))
    h (b.noted 0 w.facts.reply)
