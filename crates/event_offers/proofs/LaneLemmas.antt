-- What offers leave a bay.
use Rattle.std.proofs.Common.{◌≡◌, ◌≤◌, ◌+◌, ℕ, Bool, true, false, if◌then◌else◌, List, [], ◌∷◌, ◌++◌, length, map, Option, refl, sym, ap, ◌∙◌, subst, arith}
use Rattle.std.specs.List.{flat_map}
use Rattle.std.specs.Option.{ForSome}
use Rattle.audit_core.specs.Offers.{Due, offers_due, due_at, sinks_on, when_on, mode_of, is_on}
use Rattle.audit_core.specs.declared.offers.OfferNote.{OfferNote}
use Rattle.audit_core.specs.declared.offers.Outcome.{Outcome}
use Rattle.audit_core.specs.declared.settings.Settings.{Settings}
use Rattle.audit_core.specs.declared.sinks.Sink.{Sink}
use Rattle.audit_core.specs.declared.sinks.Sink.TheVariants.{Log, Webhook}
use Rattle.audit_core.specs.declared.sinks.SinkMode.{SinkMode}
use Rattle.event_offers.specs.Lanes.{LaneState, LanesState, AreLanesOf, IsLaneOf, is_batch}
use Rattle.event_offers.specs.Offering.{OffersAll, OffersTo, OffersFit, OffersLine}
use Rattle.stage_event.specs.declared.event.Event.{Event}
use Rattle.truncate_backend.specs.declared.fitted.Fit.{Fit}
use Rattle.truncate_backend.specs.declared.fitted.Fit.TheVariants.{Whole, Stripped, TooLarge}

-- what no offer changes of a lane, and by how much its count of lines grows
pub record Stays (m n : LaneState) : Type 0 where
  pub bay : n.bay ≡ m.bay
  pub queued : n.queued ≡ m.queued
  pub home : n.home ≡ m.home
  pub least : m.lines ≤ n.lines
  pub most : n.lines ≤ m.lines + 1

stays_line : (bay : ℕ) (bytes : List ℕ) (m n : LaneState) (own : Outcome) → OffersLine bay bytes m own n → Stays m n
stays_line bay bytes m n own h = record {
  bay = ap (λ (s : LaneState). s.bay) h.after;
  queued = ap (λ (s : LaneState). s.queued) h.after;
  home = ap (λ (s : LaneState). s.home) h.after;
  least = omega (arith, ap (λ (s : LaneState). s.lines) h.after);
  most = omega (arith, ap (λ (s : LaneState). s.lines) h.after);
}

stays_same : (m n : LaneState) → n ≡ m → Stays m n
stays_same m n e = record {
  bay = ap (λ (s : LaneState). s.bay) e;
  queued = ap (λ (s : LaneState). s.queued) e;
  home = ap (λ (s : LaneState). s.home) e;
  least = omega (arith, ap (λ (s : LaneState). s.lines) e);
  most = omega (arith, ap (λ (s : LaneState). s.lines) e);
}

pub stays_fit : (bay : ℕ) (written : Fit) (m n : LaneState) (own : Outcome) → OffersFit bay written m own n → Stays m n
stays_fit bay (Whole bytes) m n own h = stays_line bay bytes m n own h
stays_fit bay (Stripped bytes) m n own h = stays_line bay bytes m n own h
stays_fit bay (TooLarge size) m n own h = stays_same m n h.1

lane_stays : (bay : ℕ) (mode : SinkMode) (m n : LaneState) → Stays m n → IsLaneOf bay mode m → IsLaneOf bay mode n
lane_stays bay mode m n s h on =
    let was = h on in
    (subst (λ b. ForSome b (λ c. bay ≡ c)) (sym s.bay) was.0, s.queued ∙ was.1)

one_stays : (set : Settings) (sink : Sink) (written : Fit) (m n : LanesState) (own : Outcome)
    → OffersTo sink written m own n → AreLanesOf set m → AreLanesOf set n
one_stays set Log written m n own h l =
    subst (AreLanesOf set) (sym h.1)
    (record { log = lane_stays m.bay set.log m.log n.log (stays_fit m.bay written m.log n.log own h.0) l.log; hook = l.hook })
one_stays set Webhook written m n own h l =
    subst (AreLanesOf set) (sym h.1)
    (record { log = l.log; hook = lane_stays m.bay set.hook m.hook n.hook (stays_fit m.bay written m.hook n.hook own h.0) l.hook })

pub one_bay : (sink : Sink) (written : Fit) (m n : LanesState) (own : Outcome) → OffersTo sink written m own n → n.bay ≡ m.bay
one_bay Log written m n own h = ap (λ (s : LanesState). s.bay) h.1
one_bay Webhook written m n own h = ap (λ (s : LanesState). s.bay) h.1

pub all_stay : (set : Settings) (dues : List Due) (m n : LanesState) (notes : List OfferNote)
    → OffersAll dues m notes n → AreLanesOf set m → AreLanesOf set n
all_stay set [] m n notes h l = subst (AreLanesOf set) (sym h.1) l
all_stay set (due ∷ dues) m n notes h l =
    all_stay set dues h.2 n h.1 h.5 (one_stays set due.sink due.fit m h.2 h.0 h.3 l)

pub bay_stays : (dues : List Due) (m n : LanesState) (notes : List OfferNote) → OffersAll dues m notes n → n.bay ≡ m.bay
bay_stays [] m n notes h = ap (λ (s : LanesState). s.bay) h.1
bay_stays (due ∷ dues) m n notes h = bay_stays dues h.2 n h.1 h.5 ∙ one_bay due.sink due.fit m h.2 h.0 h.3

-- ---- how many lines

-- of what is due, how much is for a sink
abbrev pub for_log : Sink → ℕ
for_log Log = 1
for_log Webhook = 0

abbrev pub for_hook : Sink → ℕ
for_hook Log = 0
for_hook Webhook = 1

abbrev pub count : (Sink → ℕ) → List Due → ℕ
count own [] = 0
count own (due ∷ dues) = own due.sink + count own dues

one_log : (sink : Sink) (written : Fit) (m n : LanesState) (own : Outcome) → OffersTo sink written m own n
    → n.log.lines ≤ m.log.lines + for_log sink
one_log Log written m n own h = (stays_fit m.bay written m.log n.log own h.0).most
one_log Webhook written m n own h = omega (arith, ap (λ (s : LanesState). s.log.lines) h.1)

one_hook : (sink : Sink) (written : Fit) (m n : LanesState) (own : Outcome) → OffersTo sink written m own n
    → n.hook.lines ≤ m.hook.lines + for_hook sink
one_hook Log written m n own h = omega (arith, ap (λ (s : LanesState). s.hook.lines) h.1)
one_hook Webhook written m n own h = (stays_fit m.bay written m.hook n.hook own h.0).most

all_log : (dues : List Due) (m n : LanesState) (notes : List OfferNote) → OffersAll dues m notes n
    → n.log.lines ≤ m.log.lines + count for_log dues
all_log [] m n notes h = omega (arith, ap (λ (s : LanesState). s.log.lines) h.1)
all_log (due ∷ dues) m n notes h =
    omega (arith, one_log due.sink due.fit m h.2 h.0 h.3, all_log dues h.2 n h.1 h.5)

all_hook : (dues : List Due) (m n : LanesState) (notes : List OfferNote) → OffersAll dues m notes n
    → n.hook.lines ≤ m.hook.lines + count for_hook dues
all_hook [] m n notes h = omega (arith, ap (λ (s : LanesState). s.hook.lines) h.1)
all_hook (due ∷ dues) m n notes h =
    omega (arith, one_hook due.sink due.fit m h.2 h.0 h.3, all_hook dues h.2 n h.1 h.5)

count-append : (own : Sink → ℕ) (these those : List Due) → count own (these ++ those) ≡ count own these + count own those
count-append own [] those = omega arith
count-append own (due ∷ these) those = omega (arith, count-append own these those)

-- one event is due to each sink once at most
event_log : (set : Settings) (event : Event) (log hook : Bool)
    → count for_log (map (due_at set event) ((if log then Log ∷ [] else []) ++ (if hook then Webhook ∷ [] else []))) ≤ 1
event_log set event true true = omega arith
event_log set event true false = omega arith
event_log set event false true = omega arith
event_log set event false false = omega arith

event_hook : (set : Settings) (event : Event) (log hook : Bool)
    → count for_hook (map (due_at set event) ((if log then Log ∷ [] else []) ++ (if hook then Webhook ∷ [] else []))) ≤ 1
event_hook set event true true = omega arith
event_hook set event true false = omega arith
event_hook set event false true = omega arith
event_hook set event false false = omega arith

due_log : (set : Settings) (events : List Event) → count for_log (offers_due set events) ≤ length events
due_log set [] = omega arith
due_log set (event ∷ events) =
    omega (
      arith,
      count-append for_log (map (due_at set event) (sinks_on set)) (offers_due set events),
      event_log set event (is_on set.log) (is_on set.hook),
      due_log set events,
    )

due_hook : (set : Settings) (events : List Event) → count for_hook (offers_due set events) ≤ length events
due_hook set [] = omega arith
due_hook set (event ∷ events) =
    omega (
      arith,
      count-append for_hook (map (due_at set event) (sinks_on set)) (offers_due set events),
      event_hook set event (is_on set.log) (is_on set.hook),
      due_hook set events,
    )

pub few_log : (set : Settings) (events : List Event) (due rest : List Due) (m n : LanesState) (notes : List OfferNote)
    → offers_due set events ≡ due ++ rest → OffersAll due m notes n → n.log.lines ≤ m.log.lines + length events
few_log set events due rest m n notes e h =
    omega (arith, all_log due m n notes h, count-append for_log due rest, ap (count for_log) e, due_log set events)

pub few_hook : (set : Settings) (events : List Event) (due rest : List Due) (m n : LanesState) (notes : List OfferNote)
    → offers_due set events ≡ due ++ rest → OffersAll due m notes n → n.hook.lines ≤ m.hook.lines + length events
few_hook set events due rest m n notes e h =
    omega (arith, all_hook due m n notes h, count-append for_hook due rest, ap (count for_hook) e, due_hook set events)
