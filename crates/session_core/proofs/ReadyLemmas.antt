-- A bay may go on.
use Rattle.std.proofs.Common.{◌≡◌, ◌≤◌, ◌<◌, ◌+◌, ℕ, Bool, List, [], ◌∷◌, ◌++◌, length, Option, refl, sym, ap, subst, arith, append-nil, length-append, inl, inr}
use Rattle.apiservice_rows.specs.Row.{Row}
use Rattle.apiservice_table.specs.declared.change.Change.{Change}
use Rattle.audit_core.specs.Offers.{Due, offers_due}
use Rattle.audit_core.specs.Owed.{owed, omits}
use Rattle.audit_core.specs.declared.errand.Errand.{Errand}
use Rattle.audit_core.specs.declared.offers.OfferNote.{OfferNote}
use Rattle.audit_core.specs.declared.routed.Routed.{Routed}
use Rattle.audit_core.specs.declared.settings.Settings.{Settings}
use Rattle.event_offers.specs.Lanes.{LanesState, AreLanesOf}
use Rattle.event_offers.specs.Offering.{OffersAll, stage_events, started_events}
use Rattle.front_base.specs.Info.{is_long_running}
use Rattle.front_base.specs.declared.audit_id.TheConstants.{MOST_REQUESTS}
use Rattle.front_base.specs.declared.stage.Stage.TheVariants.{RequestReceived, ResponseStarted, ResponseComplete}
use Rattle.front_ports.specs.Told.{Grows}
use Rattle.http_edge.specs.declared.request.Request.{Request}
use Rattle.policy_rules.specs.declared.decision.Decision.{Decision}
use Rattle.session_core.specs.Bays.{BayState, CanOffer, IsReady, next_id}
use Rattle.session_core.specs.Exchange.{ExchangedTo, Unbegun}
use Rattle.session_core.specs.Parts.{Handled, Outcomes}
use Rattle.session_core.specs.Steps.{Arrived, IsBegun, WorkState, stamp_at}
use Rattle.session_core.specs.declared.begun.Begun.{Begun}
use Rattle.session_core.specs.declared.exchange.Exchange.{Exchange}
use Rattle.session_core.specs.declared.session.Outcome.{Outcome}
use Rattle.session_core.specs.declared.session.Outcome.TheVariants as outcome
use Rattle.session_core.proofs.NotingLemmas.{Stages}
use Rattle.session_core.proofs.ReplyLemmas.{Stay, FewLog, FewHook, may_after, one_by, one_if}
use Rattle.stage_event.specs.Events.{event}
use Rattle.stage_event.specs.declared.facts.Facts.{Facts}
use Rattle.stream_relay.specs.declared.stream.Relayed.{Relayed}
use Rattle.stream_relay.specs.declared.stream.Relayed.TheVariants as relayed

pub three : Stages → (d : Decision) (facts : Facts) → length (owed d facts) ≤ 3
three stages d facts =
    let a = stage_events d facts RequestReceived in
    let b = started_events d facts in
    let c = stage_events d facts ResponseComplete in
    omega (
      arith,
      ap length (stages d facts),
      length-append a (b ++ c),
      length-append b c,
      one_by d.level (omits d.omit RequestReceived) (event RequestReceived d.level facts),
      one_if (is_long_running facts.info) (stage_events d facts ResponseStarted) (one_by d.level (omits d.omit ResponseStarted) (event ResponseStarted d.level facts)),
      one_by d.level (omits d.omit ResponseComplete) (event ResponseComplete d.level facts),
    )

-- ---- how it ends

-- the bay may go on after all of its offers, or a part of them
pub ready_after : Stay → FewLog → FewHook → Stages → (set : Settings) (m n : BayState) (d : Decision) (facts : Facts) (due rest : List Due) (notes : List OfferNote)
    → IsReady set m → m.number < MOST_REQUESTS → offers_due set (owed d facts) ≡ due ++ rest → OffersAll due m.lanes notes n.lanes
    → n.number ≡ m.number + 1 → IsReady set n
ready_after stay log hook stages set m n d facts due rest notes h few e o number = record {
  max = h.max;
  lanes = stay set due m.lanes n.lanes notes o h.lanes;
  few = omega (arith, number, few);
  log = omega (arith, number, h.log, log set (owed d facts) due rest m.lanes n.lanes notes e o, three stages d facts);
  hook = omega (arith, number, h.hook, hook set (owed d facts) due rest m.lanes n.lanes notes e o, three stages d facts);
}

pub ready_exchanged : Stay → FewLog → FewHook → Stages → (set : Settings) (peer : List ℕ) (r : Request) (m n : BayState) (text : List ℕ) (end : Relayed)
    (x : Exchange) → IsReady set m → m.number < MOST_REQUESTS → ExchangedTo set peer r m text n end x → IsReady set n
ready_exchanged stay log hook stages set peer r m n text end x h few e =
    ready_after stay log hook stages set m n x.decision x.facts (offers_due set (owed x.decision x.facts)) [] x.offers h few
    (sym (append-nil (offers_due set (owed x.decision x.facts)))) e.offered e.number_is

ready_unbegun : (set : Settings) (m n : BayState) (w0 w1 : Option (List ℕ)) → IsReady set m → Unbegun m n w0 w1 → IsReady set n
ready_unbegun set m n w0 w1 h u =
    subst (IsReady set) (sym u.same) (record { max = h.max; lanes = h.lanes; few = h.few; log = h.log; hook = h.hook })

pub ready_by : Stay → FewLog → FewHook → Stages → (set : Settings) (peer : List ℕ) (r : Request) (m n : BayState) (w0 w1 : Option (List ℕ)) (rose : Type 0)
    (v0 v1 : Option (List Bool)) (own : Outcome) → IsReady set m → m.number < MOST_REQUESTS → Outcomes set peer r m n w0 w1 rose v0 v1 own → IsReady set n
ready_by stay log hook stages set peer r m n w0 w1 rose v0 v1 outcome.Whole h few o =
    ready_exchanged stay log hook stages set peer r m n o.0 relayed.Done o.1 h few o.2
ready_by stay log hook stages set peer r m n w0 w1 rose v0 v1 outcome.Last h few o =
    ready_exchanged stay log hook stages set peer r m n o.0 relayed.Done o.1 h few o.2
ready_by stay log hook stages set peer r m n w0 w1 rose v0 v1 outcome.Cut h few o =
    ready_exchanged stay log hook stages set peer r m n o.0 relayed.WriteFault o.1 h few o.2
ready_by stay log hook stages set peer r m n w0 w1 rose v0 v1 outcome.BackendCut h few o =
    ready_exchanged stay log hook stages set peer r m n o.0 relayed.BackendCut o.1 h few o.2
ready_by stay log hook stages set peer r m n w0 w1 rose v0 v1 outcome.StreamSpent h few o =
    ready_exchanged stay log hook stages set peer r m n o.0 relayed.StreamSpent o.1 h few o.2
ready_by stay log hook stages set peer r m n w0 w1 rose v0 v1 outcome.NoMemory h few (inl u) = ready_unbegun set m n w0 w1 h u.0
ready_by stay log hook stages set peer r m n w0 w1 rose v0 v1 outcome.NoMemory h few (inr x) =
    ready_after stay log hook stages set m n x.0.decision x.0.facts x.1.due x.1.rest x.0.offers h few x.1.due_is x.1.offered x.1.number_is

-- before it was judged
pub unbegun : (m n : BayState) (w0 : Option (List ℕ)) → Grows m.given n.given (n.last ∷ []) → m.last ≤ n.last
    → n ≡ record m { given = n.given; last = n.last } → Unbegun m n w0 w0
unbegun m n w0 g le e = record { clock = inr (g, le); same = e; written = refl }

-- at a moment of the clock a request was judged
pub arrived_at : (set : Settings) (peer own : List ℕ) (r : Request) (begun : Begun) (m : BayState) (last : ℕ) (given : Option (List ℕ)) (notes : Option (List Exchange))
    (received : ℕ) → own ≡ peer → last ≡ received → m.last ≤ received → Grows m.given given (received ∷ []) → notes ≡ m.notes
    → IsBegun set (record { id = next_id m; peer = own; received = received; started = received; complete = received }) r begun
    → Arrived set peer r begun m (record m { last = last; given = given; notes = notes })
arrived_at set peer own r begun m last given notes received ep el le g en h = record {
  is_begun = subst (λ (t : ℕ). IsBegun set (stamp_at peer m t) r begun) (sym el)
      (subst (λ (p : List ℕ). IsBegun set (stamp_at p m received) r begun) ep h);
  given = subst (λ (t : ℕ). Grows m.given given (t ∷ [])) (sym el) g;
  later = omega (arith, el, le);
  bay_is = ap (λ y. let s : BayState = record m { last = last; given = given; notes = y } in s) en;
}

pub may_all : (set : Settings) (m n : BayState) → IsReady set m → m.number < MOST_REQUESTS → n.lanes ≡ m.lanes → CanOffer set n.lanes 3
may_all set m n h few e = record {
  max = h.max;
  lanes = subst (AreLanesOf set) (sym e) h.lanes;
  log = omega (arith, h.log, few, ap (λ (l : LanesState). l.log.lines) e);
  hook = omega (arith, h.hook, few, ap (λ (l : LanesState). l.hook.lines) e);
}

pub may_arrive : (set : Settings) (m : LanesState) → CanOffer set m 3 → CanOffer set m 1
may_arrive set m h = record { max = h.max; lanes = h.lanes; log = omega (arith, h.log); hook = omega (arith, h.hook) }

-- after the offers of its arrival
pub may_answer : Stay → FewLog → FewHook → (set : Settings) (own : Errand) (opening : List Row) (s0 s1 : List Change) (o0 o1 : List (ℕ × Change))
    (m n : LanesState) (w v : WorkState) (routed : Routed) → CanOffer set m 3 → Handled set own opening s0 o0 m w s1 o1 n v routed → CanOffer set n 2
may_answer stay log hook set own opening s0 s1 o0 o1 m n w v routed h g =
    may_after stay log hook set 2 m n _ w.notes v.notes
    (one_by w.decision.level (omits w.decision.omit RequestReceived) (event RequestReceived w.decision.level w.facts)) h g.offered.noted
