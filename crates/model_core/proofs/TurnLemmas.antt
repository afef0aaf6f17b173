-- What a step of a bay leaves of its exchanges and of every sink's lane.
use Rattle.std.proofs.Common.{◌≡◌, ◌≢◌, ℕ, ◌+◌, ◌<◌, ◌≤◌, Bool, true, false, not, ◌&&◌, List, [], ◌∷◌, ◌++◌, length, Option, Some, None, refl, ap, sym, ◌∙◌, subst, append_assoc, length-append, arith}
use Rattle.std.proofs.lemmas.Grind.{flat_map-append}
use Rattle.std.proofs.lemmas.List.{append-nil}
use Rattle.std.specs.Prelude.{if◌then◌else◌, flat_map, is_none, nat_le, nat_lt, IfSome}
use Rattle.apiservice_table.specs.declared.change.Change.{Change}
use Rattle.audit_core.specs.Answer.{status_of}
use Rattle.audit_core.specs.Offers.{Due, mode_of}
use Rattle.audit_core.specs.declared.link_note.LinkNote.{LinkNote}
use Rattle.audit_core.specs.declared.offers.OfferNote.{OfferNote}
use Rattle.audit_core.specs.declared.sinks.Sink.{Sink}
use Rattle.audit_core.specs.declared.sinks.Sink.TheVariants.{Log, Webhook}
use Rattle.model_core.proofs.DueLemmas.{on_at, on_so_far, AllOn}
use Rattle.model_core.proofs.ExchangeLemmas.{BayOk, all-more, begun-ok, found-ok, changes_more, changes-grow, changed-ok, noted-ok, settled-ok, no_waits, ready_unfinished, started_dues, started-ok, finished_dues, finished-ok}
use Rattle.model_core.proofs.LaneLemmas.{SameLane, same_lane, fit_can, fit_other, fit_added, LaneOk, Grown, own_lane, kept_lane, other_lane}
use Rattle.model_core.proofs.LineLemmas.{notes-length, lengths-append, count_for, lines-more, count-more, lines-push, count-push}
use Rattle.model_core.proofs.Logic.{both, no_case, and_first, and_second, no_of, le_of, some_if, none_of}
use Rattle.model_core.proofs.MakerLemmas.{closed-more, settled_makers, makers_with, undecided_makes, decided_makers}
use Rattle.model_core.specs.Makers.{one_if, closed_makers, open_makers, bay_makers}
use Rattle.model_core.specs.Exchanges.{AreSettled, SettledSoFar}
use Rattle.model_core.specs.Offered.{dues_of, dues_so_far, open_dues, dues_by, open_notes, notes_by}
use Rattle.event_offers.specs.Taken.{is_for, line_in, count_in, lines_for}
use Rattle.front_base.specs.Line.{Line}
use Rattle.front_base.specs.declared.audit_id.TheConstants.{MOST_REQUESTS}
use Rattle.front_base.specs.declared.stage.Stage.TheVariants.{ResponseStarted, ResponseComplete}
use Rattle.http_edge.specs.declared.request.Request.{Request}
use Rattle.stage_event.specs.declared.facts.Kept.{Kept}
use Rattle.model_worlds.specs.Requests.{wish_of}
use Rattle.model_worlds.specs.Setup.{Setup}
use Rattle.model_worlds.specs.Steps
use Rattle.model_worlds.specs.declared.state.Bay.{Bay}
use Rattle.model_worlds.specs.declared.state.Exchange.{Exchange}
use Rattle.model_worlds.specs.declared.state.Open.{Open}
use Rattle.model_worlds.specs.declared.state.Shared.{Shared}
use Rattle.model_worlds.specs.declared.state.SinkState.{SinkState}
use Rattle.model_worlds.specs.declared.step.TryTold.{TryTold}

-- ---- what a bay was due, and what it noted

-- as many notes as what exchanges that are over owe is due
closed_length : (setup : Setup) (ch : List Change) (xs : List Exchange) → AreSettled setup ch xs
    → length (flat_map (dues_of setup) xs) ≡ length (flat_map (λ x. x.notes) xs)
closed_length setup ch [] h = refl
closed_length setup ch (x ∷ xs) h =
    lengths-append (dues_of setup x) (flat_map (dues_of setup) xs) x.notes (flat_map (λ y. y.notes) xs)
    (notes-length setup.set (dues_of setup x) x.notes h.0.offers)
    (closed_length setup ch xs h.1)

-- no more notes than dues
open_fewer : (setup : Setup) (ch : List Change) (o : Option Open) → IfSome o (SettledSoFar setup ch)
    → length (open_notes o) ≤ length (open_dues setup o)
open_fewer setup ch None h = omega arith
open_fewer setup ch (Some o) h =
    let made = notes-length setup.set h.offers.made o.exchange.notes h.offers.noted in
    omega (arith, length-append h.offers.made o.waiting, ap length h.offers.all)

pub notes_fewer : (setup : Setup) (ch : List Change) (b : Bay) → BayOk setup ch b
    → length (notes_by b) ≤ length (dues_by setup b)
notes_fewer setup ch b h =
    let closed = closed_length setup ch b.closed h.closed in
    let current = open_fewer setup ch b.current h.current in
    omega (arith, length-append (flat_map (λ x. x.notes) b.closed) (open_notes b.current), length-append (flat_map (dues_of setup) b.closed) (open_dues setup b.current))

-- ---- a bay that settles

closing_dues : (setup : Setup) (b : Bay) (o : Open) (c : Bool) → (c ≡ true → dues_so_far setup o ≡ dues_of setup o.exchange)
    → dues_by setup (if c then record b { closed = b.closed ++ o.exchange ∷ []; current = None } else record b { current = Some o })
    ≡ flat_map (dues_of setup) b.closed ++ dues_so_far setup o
closing_dues setup b o true h =
    append-nil (flat_map (dues_of setup) (b.closed ++ o.exchange ∷ []))
    ∙ flat_map-append (dues_of setup) b.closed (o.exchange ∷ [])
    ∙ ap (λ v. flat_map (dues_of setup) b.closed ++ v) (append-nil (dues_of setup o.exchange) ∙ sym (h refl))
closing_dues setup b o false h = refl

settled_dues : (setup : Setup) (ch : List Change) (b : Bay) (o : Open) → SettledSoFar setup ch o
    → dues_by setup (Steps.settled b o) ≡ flat_map (dues_of setup) b.closed ++ dues_so_far setup o
settled_dues setup ch b o h =
    closing_dues setup b o (o.phase.finished && Steps.no_wait o.waiting)
    (λ q. (h.finished (and_first o.phase.finished (Steps.no_wait o.waiting) q)).due)

closing_notes : (b : Bay) (o : Open) (c : Bool)
    → notes_by (if c then record b { closed = b.closed ++ o.exchange ∷ []; current = None } else record b { current = Some o })
    ≡ flat_map (λ x. x.notes) b.closed ++ o.exchange.notes
closing_notes b o true =
    append-nil (flat_map (λ x. x.notes) (b.closed ++ o.exchange ∷ []))
    ∙ flat_map-append (λ (x : Exchange). x.notes) b.closed (o.exchange ∷ [])
    ∙ ap (λ v. flat_map (λ x. x.notes) b.closed ++ v) (append-nil o.exchange.notes)
closing_notes b o false = refl

settled_notes : (b : Bay) (o : Open) → notes_by (Steps.settled b o) ≡ flat_map (λ x. x.notes) b.closed ++ o.exchange.notes
settled_notes b o = closing_notes b o (o.phase.finished && Steps.no_wait o.waiting)

-- ---- turns

-- the bay before its step
pub record Before (setup : Setup) (bays i : ℕ) (sh : Shared) (b : Bay) : Type 0 where
  pub within : i < bays
  pub bay : BayOk setup sh.changes b
  pub lanes : (sink : Sink) → LaneOk setup bays sink i (Steps.sink_at sh sink) b

-- and after it
pub record TurnOk (setup : Setup) (bays i : ℕ) (sh : Shared) (b : Bay) (t : Steps.Turn) : Type 0 where
  pub more : List Change
  pub grown : t.shared.changes ≡ sh.changes ++ more
  pub bay : BayOk setup t.shared.changes t.bay
  pub lanes : (sink : Sink) → LaneOk setup bays sink i (Steps.sink_at t.shared sink) t.bay
  pub others : (sink : Sink) (j : ℕ) → j ≢ i → SameLane j (Steps.sink_at sh sink) (Steps.sink_at t.shared sink)
  -- each change that it adds is made by one exchange more
  pub makers : (place : ℕ)
      → bay_makers setup t.shared.changes place t.bay + one_if (nat_lt place (length sh.changes))
      ≡ bay_makers setup sh.changes place b + one_if (nat_lt place (length t.shared.changes))

-- a step that makes no offer
pub record Quiet (setup : Setup) (sh : Shared) (b : Bay) (t : Steps.Turn) : Type 0 where
  pub sinks : (sink : Sink) → Steps.sink_at t.shared sink ≡ Steps.sink_at sh sink
  pub more : List Change
  pub grown : t.shared.changes ≡ sh.changes ++ more
  pub bay : BayOk setup t.shared.changes t.bay
  pub extra : List Due
  pub dues : dues_by setup t.bay ≡ dues_by setup b ++ extra
  pub notes : notes_by t.bay ≡ notes_by b
  pub makers : (place : ℕ)
      → bay_makers setup t.shared.changes place t.bay + one_if (nat_lt place (length sh.changes))
      ≡ bay_makers setup sh.changes place b + one_if (nat_lt place (length t.shared.changes))

pub quiet_ok : (setup : Setup) (bays i : ℕ) (sh : Shared) (b : Bay) (t : Steps.Turn) → Before setup bays i sh b
    → Quiet setup sh b t → TurnOk setup bays i sh b t
quiet_ok setup bays i sh b t h q =
    let few = notes_fewer setup sh.changes b h.bay in
    record {
      more = q.more;
      grown = q.grown;
      bay = q.bay;
      lanes = λ sink.
          subst (λ s. LaneOk setup bays sink i s t.bay) (sym (q.sinks sink))
          (kept_lane setup bays sink i (Steps.sink_at sh sink) b t.bay
          (λ keeps.
          both (λ (ws : List Due) (ns : List OfferNote). lines_for keeps sink i 0 ws ns) q.dues q.notes
          ∙ lines-more keeps sink i (dues_by setup b) q.extra (notes_by b) 0 few)
          (both (λ (ws : List Due) (ns : List OfferNote). count_for sink ws ns) q.dues q.notes
          ∙ count-more sink (dues_by setup b) q.extra (notes_by b) few)
          (h.lanes sink));
      others = λ sink j ne.
          subst (λ s. SameLane j (Steps.sink_at sh sink) s) (sym (q.sinks sink)) (same_lane j (Steps.sink_at sh sink));
      makers = q.makers;
    }

-- the same changes, and as many of its exchanges made them
same_makers : (m n e : ℕ) → m ≡ n → m + e ≡ n + e
same_makers m n e h = omega arith

same_changes : (ch : List Change) → ch ≡ ch ++ []
same_changes ch = sym (append-nil ch)

-- the bay with its exchange replaced by one that was due more and noted the same
dues_with : (setup : Setup) (b : Bay) (o : Open) (extra : List Due) (ws : List Due) → b.current ≡ Some o
    → dues_so_far setup o ++ extra ≡ ws
    → flat_map (dues_of setup) b.closed ++ ws ≡ dues_by setup b ++ extra
dues_with setup b o extra ws e q =
    ap (λ v. flat_map (dues_of setup) b.closed ++ v) (sym q)
    ∙ sym (append_assoc (flat_map (dues_of setup) b.closed) (dues_so_far setup o) extra)
    ∙ ap (λ c. (flat_map (dues_of setup) b.closed ++ open_dues setup c) ++ extra) (sym e)

notes_with : (b : Bay) (o : Open) → b.current ≡ Some o
    → flat_map (λ x. x.notes) b.closed ++ o.exchange.notes ≡ notes_by b
notes_with b o e = ap (λ c. flat_map (λ x. x.notes) b.closed ++ open_notes c) (sym e)

-- ---- Begin

pub begin_quiet : (setup : Setup) (bay m : ℕ) (peer : List ℕ) (r : Request) (sh : Shared) (b : Bay)
    → BayOk setup sh.changes b
    → IfSome (Steps.begin setup bay (wish_of setup peer r m) m sh b) (Quiet setup sh b)
begin_quiet setup bay m peer r sh b h =
    some_if (Quiet setup sh b) (is_none b.current && nat_lt b.number MOST_REQUESTS) _
    (λ c.
    let none = none_of b.current (and_first (is_none b.current) (nat_lt b.number MOST_REQUESTS) c) in
    let o = Steps.begun setup bay b.number (wish_of setup peer r m) m in
    record {
      sinks = λ sink. refl;
      more = [];
      grown = same_changes sh.changes;
      bay = record { closed = h.closed; current = begun-ok setup sh.changes bay b.number m peer r };
      extra = dues_so_far setup o;
      dues =
          ap (λ v. v ++ dues_so_far setup o)
          (sym (append-nil (flat_map (dues_of setup) b.closed))
          ∙ ap (λ d. flat_map (dues_of setup) b.closed ++ open_dues setup d) (sym none));
      notes = ap (λ d. flat_map (λ x. x.notes) b.closed ++ open_notes d) (sym none);
      makers = λ place.
          same_makers _ _ _
          (ap (λ d. closed_makers setup sh.changes place b.closed + open_makers setup sh.changes place d) (sym none));
    })

-- ---- steps of an open exchange

-- each is quiet, given that the exchange is as it should be
pub QuietOpen : Setup → Shared → Bay → (Open → Option Steps.Turn) → Type 0
QuietOpen setup sh b f = (o : Open) → b.current ≡ Some o → SettledSoFar setup sh.changes o → IfSome (f o) (Quiet setup sh b)

pub quiet_open : (setup : Setup) (sh : Shared) (b : Bay) (f : Open → Option Steps.Turn) (c : Option Open) → b.current ≡ c
    → IfSome c (SettledSoFar setup sh.changes) → QuietOpen setup sh b f → IfSome (Steps.at_open f c) (Quiet setup sh b)
unfolding QuietOpen
quiet_open setup sh b f None e h q = tt
quiet_open setup sh b f (Some o) e h q = q o e h

not_yet : (a b : Bool) → (a ≡ true → b ≡ true) → b ≡ false → a ≡ false
not_yet true b h e = no_case b e (h refl)
not_yet false b h e = refl

pub found_quiet : (setup : Setup) (seen : ℕ) (sh : Shared) (b : Bay) → AreSettled setup sh.changes b.closed
    → QuietOpen setup sh b (Steps.found setup seen sh b)
unfolding QuietOpen
found_quiet setup seen sh b p o e h =
    some_if (Quiet setup sh b) (Steps.can_find seen sh b o) _
    (λ c.
    let c1 = and_second (Steps.no_wait o.waiting) (not o.phase.found && (not o.phase.failed && (nat_le b.seen seen && nat_le seen (length sh.changes)))) c in
    let c2 = and_second (not o.phase.found) (not o.phase.failed && (nat_le b.seen seen && nat_le seen (length sh.changes))) c1 in
    let c3 = and_second (not o.phase.failed) (nat_le b.seen seen && nat_le seen (length sh.changes)) c2 in
    let f = no_of o.phase.found (and_first (not o.phase.found) (not o.phase.failed && (nat_le b.seen seen && nat_le seen (length sh.changes))) c1) in
    let g = no_of o.phase.failed (and_first (not o.phase.failed) (nat_le b.seen seen && nat_le seen (length sh.changes)) c2) in
    let le = le_of seen (length sh.changes) (and_second (nat_le b.seen seen) (nat_le seen (length sh.changes)) c3) in
    record {
      sinks = λ sink. refl;
      more = [];
      grown = same_changes sh.changes;
      bay = record { closed = p; current = found-ok setup sh.changes o seen h le (no_waits o.waiting (and_first (Steps.no_wait o.waiting) (not o.phase.found && (not o.phase.failed && (nat_le b.seen seen && nat_le seen (length sh.changes)))) c)) f g };
      extra = [];
      dues = dues_with setup b o [] (dues_so_far setup o) e (append-nil (dues_so_far setup o));
      notes = notes_with b o e;
      makers = λ place.
          same_makers _ _ _
          (makers_with setup sh.changes place b o (Steps.found_with seen o) e
          (undecided_makes setup sh.changes place o (Steps.found_with seen o) (not_yet o.phase.decided o.phase.found h.looked f) (not_yet o.phase.decided o.phase.found h.looked f)));
    })

same_sinks : (sh : Shared) (changes : List Change) (sink : Sink)
    → Steps.sink_at (record sh { changes = changes }) sink ≡ Steps.sink_at sh sink
same_sinks sh changes Log = refl
same_sinks sh changes Webhook = refl

changed_asked : (setup : Setup) (sh : Shared) (b : Bay) (o : Open) (asked : Option Change)
    → AreSettled setup sh.changes b.closed → b.current ≡ Some o → SettledSoFar setup sh.changes o → o.exchange.asked ≡ asked
    → IfSome (Steps.changed_if setup sh b o asked) (Quiet setup sh b)
changed_asked setup sh b o None p e h q = tt
changed_asked setup sh b o (Some change) p e h q =
    some_if (Quiet setup sh b) (Steps.can_decide o) _
    (λ c.
    let fault = Steps.change_refusal setup sh.changes change in
    let grown = changes-grow sh.changes change fault in
    record {
      sinks = λ sink. same_sinks sh (Steps.changes_with sh.changes change fault) sink;
      more = changes_more fault change;
      grown = grown;
      bay = record {
        closed =
            subst (λ ch. AreSettled setup ch b.closed) (sym grown)
            (all-more setup sh.changes (changes_more fault change) b.closed p);
        current = changed-ok setup sh.changes o change h q c;
      };
      extra = [];
      dues = dues_with setup b o [] (dues_so_far setup o) e (append-nil (dues_so_far setup o));
      notes = notes_with b o e;
      makers = λ place.
          decided_makers setup sh.changes place b o change e q
          (no_of o.phase.decided
          (and_second (not o.phase.failed) (not o.phase.decided)
          (and_second o.phase.found (not o.phase.failed && not o.phase.decided)
          (and_second (Steps.no_wait o.waiting) (o.phase.found && (not o.phase.failed && not o.phase.decided)) c))))
          (ap (λ ch. closed_makers setup ch place b.closed) grown
          ∙ closed-more setup sh.changes (changes_more fault change) place b.closed p);
    })

pub changed_quiet : (setup : Setup) (sh : Shared) (b : Bay) → AreSettled setup sh.changes b.closed
    → QuietOpen setup sh b (Steps.changed setup sh b)
unfolding QuietOpen
changed_quiet setup sh b p o e h = changed_asked setup sh b o o.exchange.asked p e h refl

pub started_quiet : (setup : Setup) (status m : ℕ) (sh : Shared) (b : Bay) → AreSettled setup sh.changes b.closed
    → QuietOpen setup sh b (Steps.started setup status m sh b)
unfolding QuietOpen
started_quiet setup status m sh b p o e h =
    some_if (Quiet setup sh b)
    (Steps.is_ready o m && Steps.can_start o.exchange.level (Steps.handling_in setup sh o) o status) _
    (λ c.
    let k = Steps.handling_in setup sh o in
    let ready = and_first (Steps.is_ready o m) (Steps.can_start o.exchange.level k o status) c in
    let can = and_second (Steps.is_ready o m) (Steps.can_start o.exchange.level k o status) c in
    let extra = Steps.due setup ResponseStarted o.exchange.level (Steps.facts_started status m o.exchange.facts) in
    record {
      sinks = λ sink. refl;
      more = [];
      grown = same_changes sh.changes;
      bay = record { closed = p; current = started-ok setup sh.changes o k status m h ready can };
      extra = extra;
      dues =
          dues_with setup b o extra (dues_so_far setup (Steps.started_with setup status m o)) e
          (started_dues setup o k status m (ready_unfinished o m ready) can);
      notes = notes_with b o e;
      makers = λ place.
          same_makers _ _ _ (makers_with setup sh.changes place b o (Steps.started_with setup status m o) e refl);
    })

pub finished_quiet : (setup : Setup) (link : LinkNote) (reply : Kept) (m : ℕ) (sh : Shared) (b : Bay)
    → AreSettled setup sh.changes b.closed → QuietOpen setup sh b (Steps.finished setup link reply m sh b)
unfolding QuietOpen
finished_quiet setup link reply m sh b p o e h =
    some_if (Quiet setup sh b)
    (Steps.is_ready o m && Steps.can_finish o.exchange.level o (status_of (Steps.handling_in setup sh o) link)) _
    (λ c.
    let k = Steps.handling_in setup sh o in
    let ready = and_first (Steps.is_ready o m) (Steps.can_finish o.exchange.level o (status_of k link)) c in
    let can = and_second (Steps.is_ready o m) (Steps.can_finish o.exchange.level o (status_of k link)) c in
    let extra = Steps.due setup ResponseComplete o.exchange.level (Steps.facts_finished setup k link reply m o) in
    let q = Steps.finished_with setup k link reply m o in
    let ok = finished-ok setup sh o link reply m h ready can in
    record {
      sinks = λ sink. refl;
      more = [];
      grown = same_changes sh.changes;
      bay = settled-ok setup sh.changes b q p ok;
      extra = extra;
      dues =
          settled_dues setup sh.changes b q ok
          ∙ dues_with setup b o extra (dues_so_far setup q) e
          (finished_dues setup sh.changes o k link reply m h (ready_unfinished o m ready) can);
      notes = settled_notes b q ∙ notes_with b o e;
      makers = λ place.
          same_makers _ _ _
          (settled_makers setup sh.changes place b q ok ∙ makers_with setup sh.changes place b o q e refl);
    })

-- ---- Offer

-- the lines and the count of a bay that noted one offer more
grown_by : (setup : Setup) (i : ℕ) (b c : Bay) (ws : List Due) (w : Due) (rest : List Due) (m : OfferNote) (sink : Sink)
    → dues_by setup b ≡ ws ++ w ∷ rest → length ws ≡ length (notes_by b) → dues_by setup c ≡ dues_by setup b
    → notes_by c ≡ notes_by b ++ m ∷ [] → Grown setup sink i b c (is_for sink w.sink) w.fit m.outcome
grown_by setup i b c ws w rest m sink d len e n =
    let few : length (notes_by b) ≤ length ws = omega arith in
    record {
      lines = λ keeps.
          both (λ (vs : List Due) (ns : List OfferNote). lines_for keeps sink i 0 vs ns) (e ∙ d) n
          ∙ lines-push keeps sink i w rest m ws (notes_by b) 0 len
          ∙ both
          (λ (ls : List Line) (k : ℕ). ls ++ (if is_for sink w.sink then line_in keeps i k w.fit m.outcome else []))
          (sym (ap (λ vs. lines_for keeps sink i 0 vs (notes_by b)) d ∙ lines-more keeps sink i ws (w ∷ rest) (notes_by b) 0 few))
          (from_none (count_for sink ws (notes_by b))
          ∙ sym (ap (λ vs. count_for sink vs (notes_by b)) d ∙ count-more sink ws (w ∷ rest) (notes_by b) few));
      count =
          both (λ (vs : List Due) (ns : List OfferNote). count_for sink vs ns) (e ∙ d) n
          ∙ count-push sink w rest m ws (notes_by b) len
          ∙ ap
          (λ k. k + (if is_for sink w.sink then count_in w.fit else 0))
          (sym (ap (λ vs. count_for sink vs (notes_by b)) d ∙ count-more sink ws (w ∷ rest) (notes_by b) few));
    }
  where
    from_none : (n : ℕ) → 0 + n ≡ n
    from_none n = omega arith

-- each lane of the bay after an offer to one sink
lane_of_offer : (setup : Setup) (bays i : ℕ) (sh : Shared) (b c : Bay) (works : TryTold) (w : Due) (at sink : Sink)
    → Before setup bays i sh b
    → Grown setup sink i b c (is_for sink at) w.fit
    (Steps.push_fit (mode_of setup.set at) (setup.capacity at) works i w.fit (Steps.sink_at sh at)).outcome
    → LaneOk setup bays sink i
    (Steps.sink_at (Steps.with_sink sh at (Steps.push_fit (mode_of setup.set at) (setup.capacity at) works i w.fit (Steps.sink_at sh at)).sink) sink)
    c
lane_of_offer setup bays i sh b c works w Log Log h g =
    own_lane setup bays Log i sh.log b c w.fit _ (h.lanes Log)
    (fit_added (mode_of setup.set Log) bays i (setup.capacity Log) works w.fit sh.log h.within (h.lanes Log).places)
    g
lane_of_offer setup bays i sh b c works w Log Webhook h g = other_lane setup bays Webhook i sh.hook b c w.fit _ (h.lanes Webhook) g
lane_of_offer setup bays i sh b c works w Webhook Log h g = other_lane setup bays Log i sh.log b c w.fit _ (h.lanes Log) g
lane_of_offer setup bays i sh b c works w Webhook Webhook h g =
    own_lane setup bays Webhook i sh.hook b c w.fit _ (h.lanes Webhook)
    (fit_added (mode_of setup.set Webhook) bays i (setup.capacity Webhook) works w.fit sh.hook h.within (h.lanes Webhook).places)
    g

other_of_offer : (setup : Setup) (i : ℕ) (sh : Shared) (works : TryTold) (w : Due) (at sink : Sink) (j : ℕ) → j ≢ i
    → SameLane j (Steps.sink_at sh sink)
    (Steps.sink_at (Steps.with_sink sh at (Steps.push_fit (mode_of setup.set at) (setup.capacity at) works i w.fit (Steps.sink_at sh at)).sink) sink)
other_of_offer setup i sh works w Log Log j ne = fit_other (mode_of setup.set Log) (setup.capacity Log) works i w.fit sh.log j ne
other_of_offer setup i sh works w Log Webhook j ne = same_lane j sh.hook
other_of_offer setup i sh works w Webhook Log j ne = same_lane j sh.log
other_of_offer setup i sh works w Webhook Webhook j ne =
    fit_other (mode_of setup.set Webhook) (setup.capacity Webhook) works i w.fit sh.hook j ne

with_changes : (sh : Shared) (sink : Sink) (s : SinkState) → (Steps.with_sink sh sink s).changes ≡ sh.changes
with_changes sh Log s = refl
with_changes sh Webhook s = refl

-- what the bay was due before, up to the offer that comes next
dues_before : (setup : Setup) (ch : List Change) (b : Bay) (o : Open) (w : Due) (rest : List Due) (h : SettledSoFar setup ch o)
    → b.current ≡ Some o → o.waiting ≡ w ∷ rest
    → dues_by setup b ≡ (flat_map (dues_of setup) b.closed ++ h.offers.made) ++ w ∷ rest
dues_before setup ch b o w rest h e ws =
    ap (λ c. flat_map (dues_of setup) b.closed ++ open_dues setup c) e
    ∙ ap (λ v. flat_map (dues_of setup) b.closed ++ v) (sym h.offers.all ∙ ap (λ vs. h.offers.made ++ vs) ws)
    ∙ sym (append_assoc (flat_map (dues_of setup) b.closed) h.offers.made (w ∷ rest))

made_length : (setup : Setup) (ch : List Change) (b : Bay) (o : Open) (h : SettledSoFar setup ch o)
    → AreSettled setup ch b.closed → b.current ≡ Some o
    → length (flat_map (dues_of setup) b.closed ++ h.offers.made) ≡ length (notes_by b)
made_length setup ch b o h p e =
    lengths-append (flat_map (dues_of setup) b.closed) h.offers.made (flat_map (λ x. x.notes) b.closed) o.exchange.notes
    (closed_length setup ch b.closed p)
    (notes-length setup.set h.offers.made o.exchange.notes h.offers.noted)
    ∙ ap length (notes_with b o e)

offered_turn : (setup : Setup) (bays i : ℕ) (works : TryTold) (sh : Shared) (b : Bay) (o : Open) (w : Due) (rest : List Due)
    → Before setup bays i sh b → b.current ≡ Some o → SettledSoFar setup sh.changes o → o.waiting ≡ w ∷ rest
    → TurnOk setup bays i sh b (Steps.offered_with setup sh b o w rest (Steps.pushed setup i works sh w))
offered_turn setup bays i works sh b o w rest before e h ws =
    let p = Steps.pushed setup i works sh w in
    let on =
    on_at setup.set h.offers.made w rest
    (subst (AllOn setup.set) (sym (ap (λ vs. h.offers.made ++ vs) (sym ws) ∙ h.offers.all))
    (on_so_far setup o.exchange.level o.exchange.facts _ _)) in
    let q = Steps.noted setup w rest p.outcome o in
    let ok : SettledSoFar setup sh.changes q =
    noted-ok setup sh.changes o w rest p.outcome h ws
    (fit_can (mode_of setup.set w.sink) (setup.capacity w.sink) works i w.fit (Steps.sink_at sh w.sink) on) in
    let c = Steps.settled b q in
    let bay_ok : BayOk setup sh.changes c = settled-ok setup sh.changes b q before.bay.closed ok in
    let dues : dues_by setup c ≡ dues_by setup b =
    settled_dues setup sh.changes b q ok ∙ ap (λ d. flat_map (dues_of setup) b.closed ++ open_dues setup d) (sym e) in
    let notes : notes_by c ≡ notes_by b ++ Steps.note_of w p.outcome ∷ [] =
    settled_notes b q
    ∙ sym (append_assoc (flat_map (λ x. x.notes) b.closed) o.exchange.notes (Steps.note_of w p.outcome ∷ []))
    ∙ ap (λ v. v ++ Steps.note_of w p.outcome ∷ []) (notes_with b o e) in
    record {
      more = [];
      grown = with_changes sh w.sink p.sink ∙ same_changes sh.changes;
      bay = subst (λ ch. BayOk setup ch c) (sym (with_changes sh w.sink p.sink)) bay_ok;
      lanes = λ sink.
          lane_of_offer setup bays i sh b c works w w.sink sink before
          (grown_by setup i b c (flat_map (dues_of setup) b.closed ++ h.offers.made) w rest (Steps.note_of w p.outcome) sink
          (dues_before setup sh.changes b o w rest h e ws)
          (made_length setup sh.changes b o h before.bay.closed e)
          dues
          notes);
      others = λ sink j ne. other_of_offer setup i sh works w w.sink sink j ne;
      makers = λ place.
          subst
          (λ ch. bay_makers setup ch place c + one_if (nat_lt place (length sh.changes)) ≡ bay_makers setup sh.changes place b + one_if (nat_lt place (length ch)))
          (sym (with_changes sh w.sink p.sink))
          (same_makers _ _ _
          (settled_makers setup sh.changes place b q ok ∙ makers_with setup sh.changes place b o q e refl));
    }

offered_ok : (setup : Setup) (bays i : ℕ) (sink : Sink) (works : TryTold) (sh : Shared) (b : Bay) (o : Open) (ws : List Due)
    → Before setup bays i sh b → b.current ≡ Some o → SettledSoFar setup sh.changes o → o.waiting ≡ ws
    → IfSome (Steps.offered setup i sink works sh b o ws) (TurnOk setup bays i sh b)
offered_ok setup bays i sink works sh b o [] before e h q = tt
offered_ok setup bays i sink works sh b o (w ∷ rest) before e h q =
    some_if (TurnOk setup bays i sh b) (Steps.same_sink w.sink sink) _
    (λ c. offered_turn setup bays i works sh b o w rest before e h q)

pub offer_ok : (setup : Setup) (bays i : ℕ) (sink : Sink) (works : TryTold) (sh : Shared) (b : Bay) (c : Option Open)
    → Before setup bays i sh b → b.current ≡ c → IfSome c (SettledSoFar setup sh.changes)
    → IfSome (Steps.at_open (Steps.offer setup i sink works sh b) c) (TurnOk setup bays i sh b)
offer_ok setup bays i sink works sh b None before e h = tt
offer_ok setup bays i sink works sh b (Some o) before e h = offered_ok setup bays i sink works sh b o o.waiting before e h refl
