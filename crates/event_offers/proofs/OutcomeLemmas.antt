-- What can become of offers.
use Rattle.std.proofs.Common.{◌≡◌, ◌+◌, ℕ, Bool, true, false, ◌&&◌, ◌||◌, if◌then◌else◌, List, [], ◌∷◌, ◌++◌, map, refl, sym, ap, ◌∙◌, subst, inl, inr, append-nil}
use Rattle.std.specs.List.{list_any, flat_map}
use Rattle.std.specs.Option.{ForSome}
use Rattle.std.specs.Prelude.{Option, Some, None, ⊤}
use Rattle.audit_core.specs.Offers.{Due, offers_due, due_at, sinks_on, mode_of, is_on, is_first, is_strict, is_failed, refuses, has_refused, AreNotes, IsNote, IsOutcome, CanBe}
use Rattle.audit_core.specs.declared.offers.OfferNote.{OfferNote}
use Rattle.audit_core.specs.declared.offers.Outcome.{Outcome}
use Rattle.audit_core.specs.declared.offers.Outcome.TheVariants as outcome
use Rattle.audit_core.specs.declared.settings.Settings.{Settings}
use Rattle.audit_core.specs.declared.sinks.Sink.{Sink}
use Rattle.audit_core.specs.declared.sinks.Sink.TheVariants.{Log, Webhook}
use Rattle.audit_core.specs.declared.sinks.SinkMode.{SinkMode}
use Rattle.audit_core.specs.declared.sinks.SinkMode.TheVariants.{Off, Batch, Blocking, Strict}
use Rattle.event_offers.specs.Lanes.{LaneState, LanesState, AreLanesOf, IsLaneOf, is_batch}
use Rattle.event_offers.specs.Offering.{OffersAll, OffersTo, OffersFit, OffersLine, note_of, outcome_of, stage_events, events_by, event_unless}
use Rattle.event_offers.proofs.LaneLemmas.{all_stay}
use Rattle.front_base.specs.declared.level.Level.{Level}
use Rattle.front_base.specs.declared.level.Level.TheVariants as level
use Rattle.front_base.specs.declared.stage.Stage.{Stage}
use Rattle.policy_rules.specs.declared.decision.Decision.{Decision}
use Rattle.stage_event.specs.Events.{event}
use Rattle.stage_event.specs.declared.event.Event.{Event}
use Rattle.stage_event.specs.declared.facts.Facts.{Facts}
use Rattle.truncate_backend.specs.declared.fitted.Fit.{Fit}
use Rattle.truncate_backend.specs.declared.fitted.Fit.TheVariants as fit
use Rattle.truncate_backend.specs.declared.lane.Offer.{Offer}
use Rattle.truncate_backend.specs.declared.lane.Offer.TheVariants as answer
use Rattle.truncate_backend.specs.Lanes.{Offered, LaneTells}
use Rattle.front_base.specs.Line.{Line}

-- ---- one

batch_only : (mode : SinkMode) → is_on mode ≡ true → is_batch mode ≡ true → mode ≡ Batch
batch_only Off on q = cc
batch_only Batch on q = refl
batch_only Blocking on q = cc
batch_only Strict on q = cc

at_once : (mode : SinkMode) → is_on mode ≡ true → is_batch mode ≡ false → CanBe mode outcome.Failed
at_once Off on q = cc
at_once Batch on q = cc
at_once Blocking on q = inl refl
at_once Strict on q = inr refl

can_be : (mode : SinkMode) (queued : Bool) (m n : LaneTells) (line : Line) (own : Offer)
    → is_on mode ≡ true → queued ≡ is_batch mode → Offered m line queued own n → CanBe mode (outcome_of own)
can_be mode queued m n line answer.Taken on q h = tt
can_be mode queued m n line (answer.Full back) on q h = batch_only mode on (sym q ∙ h.1)
can_be mode queued m n line (answer.Failed back) on q h = at_once mode on (sym q ∙ h.1)

line_can : (bay : ℕ) (mode : SinkMode) (bytes : List ℕ) (m n : LaneState) (own : Outcome)
    → is_on mode ≡ true → IsLaneOf bay mode m → OffersLine bay bytes m own n → CanBe mode own
line_can bay mode bytes m n own on l h =
    subst (CanBe mode) (sym h.outcome_is) (can_be mode m.queued m.tells n.tells _ h.answer on (l on).1 h.offered)

fit_can : (bay : ℕ) (mode : SinkMode) (written : Fit) (m n : LaneState) (own : Outcome)
    → is_on mode ≡ true → IsLaneOf bay mode m → OffersFit bay written m own n → IsOutcome mode written own
fit_can bay mode (fit.Whole bytes) m n own on l h = line_can bay mode bytes m n own on l h
fit_can bay mode (fit.Stripped bytes) m n own on l h = line_can bay mode bytes m n own on l h
fit_can bay mode (fit.TooLarge size) m n own on l h = h.0

one_can : (set : Settings) (sink : Sink) (written : Fit) (m n : LanesState) (own : Outcome)
    → is_on (mode_of set sink) ≡ true → AreLanesOf set m → OffersTo sink written m own n
    → IsOutcome (mode_of set sink) written own
one_can set Log written m n own on l h = fit_can m.bay set.log written m.log n.log own on l.log h.0
one_can set Webhook written m n own on l h = fit_can m.bay set.hook written m.hook n.hook own on l.hook h.0

-- ---- all

-- all that is due is for sinks that are on
abbrev pub AllOn : Settings → List Due → Type 0
AllOn set [] = ⊤
AllOn set (due ∷ dues) = (is_on (mode_of set due.sink) ≡ true) × AllOn set dues

all_can : (set : Settings) (dues : List Due) (m n : LanesState) (notes : List OfferNote)
    → AllOn set dues → AreLanesOf set m → OffersAll dues m notes n → AreNotes set dues notes
all_can set [] m n notes on l h = subst (AreNotes set []) (sym h.0) tt
all_can set (due ∷ dues) m n notes on l h =
    subst (AreNotes set (due ∷ dues)) (sym h.4) (
      record { sink_is = refl; stage_is = refl; outcome_is = one_can set due.sink due.fit m h.2 h.0 on.0 l h.3 },
      all_can set dues h.2 n h.1 on.1
          (all_stay set (due ∷ []) m h.2 (note_of due h.0 ∷ []) (h.0, [], h.2, h.3, refl, (refl, refl)) l) h.5,
    )

on_append : (set : Settings) (these those : List Due) → AllOn set these → AllOn set those → AllOn set (these ++ those)
on_append set [] those a b = b
on_append set (due ∷ these) those a b = (a.0, on_append set these those a.1 b)

on_if : (set : Settings) (own : Event) (sink : Sink) (b : Bool) → is_on (mode_of set sink) ≡ b
    → AllOn set (map (due_at set own) (if b then sink ∷ [] else []))
on_if set own sink true e = (e, tt)
on_if set own sink false e = tt

map_sinks : (set : Settings) (own : Event) (xs ys : List Sink)
    → map (due_at set own) (xs ++ ys) ≡ map (due_at set own) xs ++ map (due_at set own) ys
map_sinks set own [] ys = refl
map_sinks set own (x ∷ xs) ys = ap (λ l. due_at set own x ∷ l) (map_sinks set own xs ys)

on_event : (set : Settings) (own : Event) → AllOn set (map (due_at set own) (sinks_on set))
on_event set own =
    subst (AllOn set)
    (sym (map_sinks set own (if is_on set.log then Log ∷ [] else []) (if is_on set.hook then Webhook ∷ [] else [])))
    (on_append set _ _ (on_if set own Log (is_on set.log) refl) (on_if set own Webhook (is_on set.hook) refl))

on_events : (set : Settings) (events : List Event) → AllOn set (offers_due set events)
on_events set [] = tt
on_events set (own ∷ events) = on_append set _ (offers_due set events) (on_event set own) (on_events set events)

pub become : (set : Settings) (events : List Event) (m n : LanesState) (notes : List OfferNote)
    → AreLanesOf set m → OffersAll (offers_due set events) m notes n → AreNotes set (offers_due set events) notes
become set events m n notes l h = all_can set (offers_due set events) m n notes (on_events set events) l h

-- ---- what refuses

abbrev pub AllAt : Stage → List Due → Type 0
AllAt own [] = ⊤
AllAt own (due ∷ dues) = (due.stage ≡ own) × AllAt own dues

refuses_no : (set : Settings) (own : Stage) (sink : Sink) (became : Outcome) → is_first own ≡ false
    → refuses set (record { sink = sink; stage = own; outcome = became }) ≡ false
refuses_no set own sink became e = ap (λ b. b && (is_strict (mode_of set sink) && is_failed became)) e

none_refuses : (set : Settings) (own : Stage) (dues : List Due) (m n : LanesState) (notes : List OfferNote)
    → is_first own ≡ false → AllAt own dues → OffersAll dues m notes n → has_refused set notes ≡ false
none_refuses set own [] m n notes e a h = ap (has_refused set) h.0
none_refuses set own (due ∷ dues) m n notes e a h =
    ap (has_refused set) h.4
    ∙ ap (λ b. b || has_refused set h.1) (refuses_no set due.stage due.sink h.0 (ap is_first a.0 ∙ e))
    ∙ none_refuses set own dues h.2 n h.1 e a.1 h.5

at_sinks : (set : Settings) (own : Event) (s : Stage) (sinks : List Sink) → own.stage ≡ s → AllAt s (map (due_at set own) sinks)
at_sinks set own s [] e = tt
at_sinks set own s (sink ∷ sinks) e = (e, at_sinks set own s sinks e)

at_unless : (set : Settings) (own : Event) (s : Stage) (omitted : Bool) → own.stage ≡ s
    → AllAt s (offers_due set (event_unless omitted own))
at_unless set own s true e = tt
at_unless set own s false e = subst (AllAt s) (sym (append-nil (map (due_at set own) (sinks_on set)))) (at_sinks set own s (sinks_on set) e)

at_level : (set : Settings) (own : Event) (s : Stage) (l : Level) (omitted : Bool) → own.stage ≡ s
    → AllAt s (offers_due set (events_by l omitted own))
at_level set own s level.None omitted e = tt
at_level set own s level.Metadata omitted e = at_unless set own s omitted e
at_level set own s level.Request omitted e = at_unless set own s omitted e
at_level set own s level.RequestResponse omitted e = at_unless set own s omitted e

stage_is : (s : Stage) (l : Level) (facts : Facts) → (event s l facts).stage ≡ s
unfolding event
stage_is s l facts = refl

pub later_refuse : (set : Settings) (d : Decision) (facts : Facts) (own : Stage) (m n : LanesState) (notes : List OfferNote)
    → is_first own ≡ false → OffersAll (offers_due set (stage_events d facts own)) m notes n → has_refused set notes ≡ false
later_refuse set d facts own m n notes e h =
    none_refuses set own (offers_due set (stage_events d facts own)) m n notes e
    (at_level set (event own d.level facts) own d.level _ (stage_is own d.level facts)) h
