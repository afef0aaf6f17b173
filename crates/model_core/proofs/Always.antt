-- What is kept by every step holds after every list of steps.
use Rattle.std.proofs.Common.{◌≡◌, ℕ, ◌+◌, ◌<◌, Bool, true, false, List, [], ◌∷◌, length, Option, Some, None, refl, ap, sym, ◌∙◌, subst, get_or, arith}
use Rattle.std.proofs.lemmas.Bool.Decides.{nat_tests}
use Rattle.std.proofs.lemmas.List.{length-set, length-replicate, get_or-set_same, get_or-set_other}
use Rattle.std.proofs.lemmas.Option.{slice_get_within, get_or_from_slice_get}
use Rattle.std.specs.Prelude.{◌==◌, slice_get, slice_set, IfSome, nat_lt}
use Rattle.audit_core.specs.Offers.{mode_of}
use Rattle.audit_core.specs.declared.sinks.Sink.{Sink}
use Rattle.audit_core.specs.declared.sinks.Sink.TheVariants.{Log, Webhook}
use Rattle.audit_core.specs.declared.sinks.SinkMode.TheVariants.{Batch}
use Rattle.model_core.proofs.ExchangeLemmas.{BayOk, bay-more}
use Rattle.model_core.proofs.LaneLemmas.{SameLane, LaneOk, moved_lane, front_lane, cut_lane}
use Rattle.model_core.proofs.LineLemmas.{count-start}
use Rattle.model_core.proofs.Logic.{both, same_number, other_number, some_if, get_replicated}
use Rattle.model_core.proofs.MakerLemmas.{bay_makers-more, makers-more, makers-set, no_makers}
use Rattle.model_core.proofs.TurnLemmas.{Before, TurnOk, Quiet, quiet_ok, begin_quiet, quiet_open, found_quiet, changed_quiet, started_quiet, finished_quiet, offer_ok}
use Rattle.model_core.specs.Exchanges.{AreSettled, SettledSoFar}
use Rattle.model_core.specs.Makers.{one_if, bay_makers, makers}
use Rattle.model_core.specs.Offered.{bay_at}
use Rattle.model_core.specs.Sinks.{BufferHolds, TriesHold, is_at_once, AreSingle}
use Rattle.front_base.specs.Line.{Line}
use Rattle.truncate_backend.specs.Tries.{Try, lines_of, done_of}
use Rattle.model_worlds.specs.Parts.{Parts}
use Rattle.model_worlds.specs.Requests.{wish_of}
use Rattle.model_worlds.specs.Setup.{Setup}
use Rattle.model_worlds.specs.Steps
use Rattle.model_worlds.specs.declared.state.Bay.{Bay}
use Rattle.model_worlds.specs.declared.state.Shared.{Shared}
use Rattle.model_worlds.specs.declared.state.SinkState.{SinkState}
use Rattle.model_worlds.specs.declared.state.State.{State}
use Rattle.model_worlds.specs.declared.step.Step.{Step}
use Rattle.model_worlds.specs.declared.step.Step.TheVariants as step

-- all that is kept
pub record AllOk (setup : Setup) (bays : ℕ) (s : State) : Type 0 where
  pub count : length s.bays ≡ bays
  pub each : (j : ℕ) → BayOk setup s.shared.changes (bay_at s j)
  pub lanes : (j : ℕ) (sink : Sink) → LaneOk setup bays sink j (Steps.sink_at s.shared sink) (bay_at s j)
  pub makers : (place : ℕ) → makers setup s.shared.changes place s.bays ≡ one_if (nat_lt place (length s.shared.changes))

-- ---- a step of a bay

-- the bay at each place after a step of one
each_turned : (setup : Setup) (bays : ℕ) (s : State) (i : ℕ) (t : Steps.Turn) (j : ℕ) (c : Bool) → (j == i) ≡ c
    → i < length s.bays → AllOk setup bays s → TurnOk setup bays i s.shared (bay_at s i) t
    → BayOk setup t.shared.changes (get_or (slice_set s.bays i t.bay) j Steps.start_bay)
each_turned setup bays s i t j true q lt h k =
    subst (λ b. BayOk setup t.shared.changes b)
    (sym (ap (λ n. get_or (slice_set s.bays i t.bay) n Steps.start_bay) (same_number j i q) ∙ get_or-set_same s.bays i t.bay Steps.start_bay lt))
    k.bay
each_turned setup bays s i t j false q lt h k =
    subst (λ b. BayOk setup t.shared.changes b)
    (sym (get_or-set_other s.bays i j t.bay Steps.start_bay (other_number j i q)))
    (subst (λ ch. BayOk setup ch (bay_at s j)) (sym k.grown) (bay-more setup s.shared.changes k.more (bay_at s j) (h.each j)))

lanes_turned : (setup : Setup) (bays : ℕ) (s : State) (i : ℕ) (t : Steps.Turn) (j : ℕ) (sink : Sink) (c : Bool) → (j == i) ≡ c
    → i < length s.bays → AllOk setup bays s → TurnOk setup bays i s.shared (bay_at s i) t
    → LaneOk setup bays sink j (Steps.sink_at t.shared sink) (get_or (slice_set s.bays i t.bay) j Steps.start_bay)
lanes_turned setup bays s i t j sink true q lt h k =
    subst
    (λ n. LaneOk setup bays sink n (Steps.sink_at t.shared sink) (get_or (slice_set s.bays i t.bay) n Steps.start_bay))
    (sym (same_number j i q))
    (subst (λ b. LaneOk setup bays sink i (Steps.sink_at t.shared sink) b)
    (sym (get_or-set_same s.bays i t.bay Steps.start_bay lt))
    (k.lanes sink))
lanes_turned setup bays s i t j sink false q lt h k =
    subst (λ b. LaneOk setup bays sink j (Steps.sink_at t.shared sink) b)
    (sym (get_or-set_other s.bays i j t.bay Steps.start_bay (other_number j i q)))
    (moved_lane setup bays sink j (Steps.sink_at s.shared sink) (Steps.sink_at t.shared sink) (bay_at s j)
    (k.others sink j (other_number j i q))
    (h.lanes j sink))

balance : (n m u v e f : ℕ) → n + u ≡ m + v → m ≡ e → v + e ≡ u + f → n ≡ f
balance n m u v e f p q r = omega arith

makers_turned : (setup : Setup) (bays : ℕ) (s : State) (i : ℕ) (t : Steps.Turn) (place : ℕ) → i < length s.bays
    → AllOk setup bays s → TurnOk setup bays i s.shared (bay_at s i) t
    → makers setup t.shared.changes place (slice_set s.bays i t.bay) ≡ one_if (nat_lt place (length t.shared.changes))
makers_turned setup bays s i t place lt h k =
    let ch = s.shared.changes in
    let all : makers setup t.shared.changes place s.bays ≡ makers setup ch place s.bays =
    ap (λ v. makers setup v place s.bays) k.grown ∙ makers-more setup ch k.more place s.bays h.each in
    let own : bay_makers setup t.shared.changes place (bay_at s i) ≡ bay_makers setup ch place (bay_at s i) =
    ap (λ v. bay_makers setup v place (bay_at s i)) k.grown ∙ bay_makers-more setup ch k.more place (bay_at s i) (h.each i) in
    balance
    (makers setup t.shared.changes place (slice_set s.bays i t.bay))
    (makers setup ch place s.bays)
    (bay_makers setup ch place (bay_at s i))
    (bay_makers setup t.shared.changes place t.bay)
    (one_if (nat_lt place (length ch)))
    (one_if (nat_lt place (length t.shared.changes)))
    (ap (λ n. makers setup t.shared.changes place (slice_set s.bays i t.bay) + n) (sym own)
    ∙ makers-set setup t.shared.changes place s.bays i t.bay lt
    ∙ ap (λ n. n + bay_makers setup t.shared.changes place t.bay) all)
    (h.makers place)
    (k.makers place)

turned-ok : (setup : Setup) (bays : ℕ) (s : State) (i : ℕ) (t : Option Steps.Turn) → i < length s.bays → AllOk setup bays s
    → IfSome t (TurnOk setup bays i s.shared (bay_at s i)) → AllOk setup bays (Steps.turned s i t).state
turned-ok setup bays s i None lt h k = h
turned-ok setup bays s i (Some t) lt h k =
    record {
      count = length-set s.bays i t.bay ∙ h.count;
      each = λ j. each_turned setup bays s i t j (j == i) refl lt h k;
      lanes = λ j sink. lanes_turned setup bays s i t j sink (j == i) refl lt h k;
      makers = λ place. makers_turned setup bays s i t place lt h k;
    }

-- a bay that is there, before its step
before : (setup : Setup) (bays : ℕ) (s : State) (i : ℕ) (b : Bay) → slice_get s.bays i ≡ Some b → AllOk setup bays s
    → Before setup bays i s.shared b
before setup bays s i b at h =
    let same = get_or_from_slice_get s.bays i b Steps.start_bay at in
    record {
      within = subst (λ n. i < n) h.count (slice_get_within s.bays i b at);
      bay = subst (λ c. BayOk setup s.shared.changes c) same (h.each i);
      lanes = λ sink. subst (λ c. LaneOk setup bays sink i (Steps.sink_at s.shared sink) c) same (h.lanes i sink);
    }

tried-ok : (setup : Setup) (bays : ℕ) (f : Shared → Bay → Option Steps.Turn) (s : State) (i : ℕ) (c : Option Bay)
    → slice_get s.bays i ≡ c → AllOk setup bays s
    → ((b : Bay) → Before setup bays i s.shared b → IfSome (f s.shared b) (TurnOk setup bays i s.shared b))
    → AllOk setup bays (Steps.turned s i (Steps.try_at f s.shared c)).state
tried-ok setup bays f s i None at h k = h
tried-ok setup bays f s i (Some b) at h k =
    turned-ok setup bays s i (f s.shared b) (slice_get_within s.bays i b at) h
    (subst (λ c. IfSome (f s.shared b) (TurnOk setup bays i s.shared c))
    (sym (get_or_from_slice_get s.bays i b Steps.start_bay at))
    (k b (before setup bays s i b at h)))

at_bay-ok : (setup : Setup) (bays : ℕ) (f : Shared → Bay → Option Steps.Turn) (s : State) (i : ℕ) → AllOk setup bays s
    → ((b : Bay) → Before setup bays i s.shared b → IfSome (f s.shared b) (TurnOk setup bays i s.shared b))
    → AllOk setup bays (Steps.at_bay s i f).state
at_bay-ok setup bays f s i h k = tried-ok setup bays f s i (slice_get s.bays i) refl h k

-- a step that makes no offer
quietly : (setup : Setup) (bays i : ℕ) (sh : Shared) (b : Bay) (t : Option Steps.Turn) → Before setup bays i sh b
    → IfSome t (Quiet setup sh b) → IfSome t (TurnOk setup bays i sh b)
quietly setup bays i sh b None h q = tt
quietly setup bays i sh b (Some t) h q = quiet_ok setup bays i sh b t h q

-- ---- a step of the writer of a sink

-- the other sink stays
lanes_drained : (setup : Setup) (bays : ℕ) (sh : Shared) (at sink : Sink) (d : SinkState) (j : ℕ) (b : Bay)
    → SameLane j (Steps.sink_at sh at) d → LaneOk setup bays sink j (Steps.sink_at sh sink) b
    → LaneOk setup bays sink j (Steps.sink_at (Steps.with_sink sh at d) sink) b
lanes_drained setup bays sh Log Log d j b e h = moved_lane setup bays Log j sh.log d b e h
lanes_drained setup bays sh Log Webhook d j b e h = h
lanes_drained setup bays sh Webhook Log d j b e h = h
lanes_drained setup bays sh Webhook Webhook d j b e h = moved_lane setup bays Webhook j sh.hook d b e h

drained_changes : (sh : Shared) (at : Sink) (d : SinkState) → (Steps.with_sink sh at d).changes ≡ sh.changes
drained_changes sh Log d = refl
drained_changes sh Webhook d = refl

drained-ok : (setup : Setup) (bays : ℕ) (s : State) (at : Sink) (d : Option Steps.Drained) → AllOk setup bays s
    → IfSome d (λ e. (j : ℕ) → SameLane j (Steps.sink_at s.shared at) e.sink)
    → AllOk setup bays (Steps.drained s at d).state
drained-ok setup bays s at None h k = h
drained-ok setup bays s at (Some d) h k =
    record {
      count = h.count;
      each = λ j. subst (λ ch. BayOk setup ch (bay_at s j)) (sym (drained_changes s.shared at d.sink)) (h.each j);
      lanes = λ j sink. lanes_drained setup bays s.shared at sink d.sink j (bay_at s j) (k j) (h.lanes j sink);
      makers = λ place.
          subst (λ ch. makers setup ch place s.bays ≡ one_if (nat_lt place (length ch)))
          (sym (drained_changes s.shared at d.sink)) (h.makers place);
    }

-- ---- steps

step-ok : (setup : Setup) (bays : ℕ) (s : State) (own : Step) → AllOk setup bays s
    → AllOk setup bays (Steps.step setup s own).state
unfolding Steps.step
step-ok setup bays s (step.Begin i r peer m) h =
    at_bay-ok setup bays (Steps.begin setup i (wish_of setup peer r m) m) s i h
    (λ b k. quietly setup bays i s.shared b _ k (begin_quiet setup i m peer r s.shared b k.bay))
step-ok setup bays s (step.Find i seen) h =
    at_bay-ok setup bays (Steps.in_exchange (Steps.found setup seen)) s i h
    (λ b k. quietly setup bays i s.shared b _ k
    (quiet_open setup s.shared b _ b.current refl k.bay.current (found_quiet setup seen s.shared b k.bay.closed)))
step-ok setup bays s (step.Offer i sink works) h =
    at_bay-ok setup bays (Steps.in_exchange (Steps.offer setup i sink works)) s i h
    (λ b k. offer_ok setup bays i sink works s.shared b b.current k refl k.bay.current)
step-ok setup bays s (step.Started i status m) h =
    at_bay-ok setup bays (Steps.in_exchange (Steps.started setup status m)) s i h
    (λ b k. quietly setup bays i s.shared b _ k
    (quiet_open setup s.shared b _ b.current refl k.bay.current (started_quiet setup status m s.shared b k.bay.closed)))
step-ok setup bays s (step.Finish i link reply m) h =
    at_bay-ok setup bays (Steps.in_exchange (Steps.finished setup link reply m)) s i h
    (λ b k. quietly setup bays i s.shared b _ k
    (quiet_open setup s.shared b _ b.current refl k.bay.current (finished_quiet setup link reply m s.shared b k.bay.closed)))
step-ok setup bays s (step.Change i) h =
    at_bay-ok setup bays (Steps.in_exchange (Steps.changed setup)) s i h
    (λ b k. quietly setup bays i s.shared b _ k
    (quiet_open setup s.shared b _ b.current refl k.bay.current (changed_quiet setup s.shared b k.bay.closed)))
step-ok setup bays s (step.Take sink) h =
    drained-ok setup bays s sink (Steps.take_line setup sink (Steps.sink_at s.shared sink)) h
    (some_if (λ (e : Steps.Drained). (j : ℕ) → SameLane j (Steps.sink_at s.shared sink) e.sink)
    (Steps.can_take setup sink (Steps.sink_at s.shared sink)) _
    (λ c j. front_lane (Steps.sink_at s.shared sink) (Steps.sink_at s.shared sink).contents j))
step-ok setup bays s (step.Cut sink works) h =
    drained-ok setup bays s sink (Steps.cut_lines setup works (Steps.sink_at s.shared sink)) h
    (some_if (λ (e : Steps.Drained). (j : ℕ) → SameLane j (Steps.sink_at s.shared sink) e.sink)
    (Steps.has_line (Steps.sink_at s.shared sink).pending) _
    (λ c j. cut_lane works (Steps.sink_at s.shared sink) _ j))

steps-ok : (setup : Setup) (bays : ℕ) (steps : List Step) (s : State) → AllOk setup bays s
    → AllOk setup bays (Steps.after_steps setup s steps)
steps-ok setup bays [] s h = h
steps-ok setup bays (own ∷ steps) s h = steps-ok setup bays steps (Steps.step setup s own).state (step-ok setup bays s own h)

-- ---- the start

start_single : (bays j : ℕ) → AreSingle (get_or (Steps.start_sink bays).own_tries j [])
start_single bays j = subst AreSingle (sym (get_replicated bays j [])) tt

start_lane : (setup : Setup) (bays j : ℕ) (sink : Sink) → LaneOk setup bays sink j (Steps.start_sink bays) Steps.start_bay
start_lane setup bays j sink =
    record {
      accepted = λ q. get_replicated bays j [];
      tried = λ q. ap lines_of (get_replicated bays j []);
      written = λ q. ap done_of (get_replicated bays j []);
      single = start_single bays j;
      number = λ q.
          both
          (λ (a : List Line) (n : ℕ). length a + (n + length (get_or (Steps.start_sink bays).own_tries j [])))
          (get_replicated bays j [])
          (get_replicated {A = ℕ} bays j 0)
          ∙ ap (λ (ts : List Try). 0 + (0 + length ts)) (get_replicated bays j [])
          ∙ sym (count-start sink);
      places = record {
        accepted = length-replicate bays [];
        fulls = length-replicate {A = ℕ} bays 0;
        own_tries = length-replicate bays [];
      };
    }

start_sinks : (setup : Setup) (bays j : ℕ) (sink : Sink)
    → LaneOk setup bays sink j (Steps.sink_at (Steps.start bays).shared sink) Steps.start_bay
start_sinks setup bays j Log = start_lane setup bays j Log
start_sinks setup bays j Webhook = start_lane setup bays j Webhook

none_below : (place : ℕ) → nat_lt place 0 ≡ false
none_below place = grind (arith, nat_tests)

start-ok : (setup : Setup) (bays : ℕ) → AllOk setup bays (Steps.start bays)
start-ok setup bays =
    record {
      count = length-replicate bays Steps.start_bay;
      each = λ j.
          subst (λ b. BayOk setup [] b) (sym (get_replicated bays j Steps.start_bay)) (record { closed = tt; current = tt });
      lanes = λ j sink.
          subst (λ b. LaneOk setup bays sink j (Steps.sink_at (Steps.start bays).shared sink) b)
          (sym (get_replicated bays j Steps.start_bay))
          (start_sinks setup bays j sink);
      makers = λ place. no_makers setup place bays ∙ sym (ap one_if (none_below place));
    }

pub always : (setup : Setup) (bays : ℕ) (steps : List Step)
    → AllOk setup bays (Steps.after_steps setup (Steps.start bays) steps)
always setup bays steps = steps-ok setup bays steps (Steps.start bays) (start-ok setup bays)

-- ---- what the law says

pub buffers_always : (setup : Setup) (bays : ℕ) (steps : List Step) (sink : Sink)
    → Parts setup bays (Steps.after_steps setup (Steps.start bays) steps) → mode_of setup.set sink ≡ Batch
    → BufferHolds setup bays sink (Steps.after_steps setup (Steps.start bays) steps)
buffers_always setup bays steps sink parts e =
    let h = always setup bays steps in
    let batch = ap Steps.is_batch e in
    record {
      parts = parts sink;
      accepted = λ bay. (h.lanes bay sink).accepted batch;
      offered = λ bay. (parts sink).accepted bay ∙ (h.lanes bay sink).accepted batch;
    }

pub tries_always : (setup : Setup) (bays : ℕ) (steps : List Step) (sink : Sink) (bay : ℕ)
    → is_at_once (mode_of setup.set sink) ≡ true
    → TriesHold setup sink (Steps.after_steps setup (Steps.start bays) steps) bay
tries_always setup bays steps sink bay e =
    let h = (always setup bays steps).lanes bay sink in
    record { single = h.single; tried = h.tried e; written = h.written e }

pub closed_always : (setup : Setup) (bays : ℕ) (steps : List Step) (bay : ℕ)
    → AreSettled setup (Steps.after_steps setup (Steps.start bays) steps).shared.changes
    (bay_at (Steps.after_steps setup (Steps.start bays) steps) bay).closed
closed_always setup bays steps bay = ((always setup bays steps).each bay).closed

in_place : (place n : ℕ) → place < n → one_if (nat_lt place n) ≡ 1
in_place place n h = let e : nat_lt place n ≡ true = grind (arith, nat_tests) in ap one_if e

pub changes_always : (setup : Setup) (bays : ℕ) (steps : List Step) (place : ℕ)
    → place < length (Steps.after_steps setup (Steps.start bays) steps).shared.changes
    → makers setup (Steps.after_steps setup (Steps.start bays) steps).shared.changes place
    (Steps.after_steps setup (Steps.start bays) steps).bays
    ≡ 1
changes_always setup bays steps place lt =
    (always setup bays steps).makers place
    ∙ in_place place (length (Steps.after_steps setup (Steps.start bays) steps).shared.changes) lt

pub current_always : (setup : Setup) (bays : ℕ) (steps : List Step) (bay : ℕ)
    → IfSome (bay_at (Steps.after_steps setup (Steps.start bays) steps) bay).current
    (SettledSoFar setup (Steps.after_steps setup (Steps.start bays) steps).shared.changes)
current_always setup bays steps bay = ((always setup bays steps).each bay).current
