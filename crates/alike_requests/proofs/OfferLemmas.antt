-- What became of the events of two requests.
use Rattle.std.proofs.Common.{◌≡◌, ◌||◌, ◌&&◌, ◌++◌, ℕ, Bool, true, false, cond, List, [], ◌∷◌, map, refl, ap, ap₂, sym, ◌∙◌, subst}
use Rattle.std.specs.List.{AllByRecursion}
use Rattle.alike_requests.specs.Alike.{OfferedAlike, SameFate}
use Rattle.alike_requests.specs.Seen.{AreNotesOfFirst, Becomes, IsNoteOf, is_too_large}
use Rattle.audit_core.specs.Offers.{Due, due_at, has_refused, is_failed, is_first, is_strict, mode_of, offers_due, refuses, sinks_on}
use Rattle.audit_core.specs.Owed.{omits, owed, owed_at}
use Rattle.audit_core.specs.declared.offers.OfferNote.{OfferNote}
use Rattle.audit_core.specs.declared.offers.Outcome.{Outcome}
use Rattle.audit_core.specs.declared.settings.Settings.{Settings}
use Rattle.audit_core.specs.declared.sinks.Sink.{Sink}
use Rattle.audit_core.specs.declared.sinks.Sink.TheVariants.{Log, Webhook}
use Rattle.event_offers.specs.Lanes.{LaneState, LanesState}
use Rattle.event_offers.specs.Offering.{OffersAll, OffersFit, OffersTo, events_by, note_of, outcome_of, stage_events, started_events}
use Rattle.front_base.specs.Info.{is_long_running}
use Rattle.front_base.specs.declared.level.Level.{Level}
use Rattle.front_base.specs.declared.level.Level.TheVariants as level
use Rattle.front_base.specs.declared.stage.Stage.{Stage}
use Rattle.front_base.specs.declared.stage.Stage.TheVariants as stage
use Rattle.policy_rules.specs.declared.decision.Decision.{Decision}
use Rattle.stage_event.specs.Events.{event}
use Rattle.stage_event.specs.declared.event.Event.{Event}
use Rattle.stage_event.specs.declared.facts.Facts.{Facts}
use Rattle.truncate_backend.specs.declared.fitted.Fit.{Fit}
use Rattle.truncate_backend.specs.declared.fitted.Fit.TheVariants as fit
use Rattle.truncate_backend.specs.declared.lane.Offer.{Offer}
use Rattle.truncate_backend.specs.declared.lane.Offer.TheVariants as answer

-- the law that is called
abbrev pub OwedParts : Type 0
OwedParts = (d : Decision) (facts : Facts) → owed d facts
    ≡ stage_events d facts stage.RequestReceived ++ (started_events d facts ++ stage_events d facts stage.ResponseComplete)

abbrev pub DueParts : Type 0
DueParts = (set : Settings) (these those : List Event) → offers_due set (these ++ those) ≡ offers_due set these ++ offers_due set those

-- ---- notes are of the first offers

not_large : (own : Offer) → is_too_large (outcome_of own) ≡ false
not_large answer.Taken = refl
not_large (answer.Full line) = refl
not_large (answer.Failed line) = refl

fit_becomes : (bay : ℕ) (written : Fit) (m : LaneState) (own : Outcome) (n : LaneState) → OffersFit bay written m own n → Becomes written own
fit_becomes bay (fit.Whole bytes) m own n h = ap is_too_large h.outcome_is ∙ not_large h.answer
fit_becomes bay (fit.Stripped bytes) m own n h = ap is_too_large h.outcome_is ∙ not_large h.answer
fit_becomes bay (fit.TooLarge size) m own n h = h.0

to_becomes : (sink : Sink) (written : Fit) (m : LanesState) (own : Outcome) (n : LanesState) → OffersTo sink written m own n → Becomes written own
to_becomes Log written m own n h = fit_becomes m.bay written m.log own n.log h.0
to_becomes Webhook written m own n h = fit_becomes m.bay written m.hook own n.hook h.0

pub offers_first : (dues rest : List Due) (m : LanesState) (notes : List OfferNote) (n : LanesState) → OffersAll dues m notes n
    → AreNotesOfFirst notes (dues ++ rest)
offers_first [] rest m notes n h = subst (λ (l : List OfferNote). AreNotesOfFirst l rest) (sym h.0) tt
offers_first (due ∷ dues) rest m notes n h =
    subst (λ (l : List OfferNote). AreNotesOfFirst l (due ∷ (dues ++ rest))) (sym h.4)
    (record { note_is = refl; outcome_is = to_becomes due.sink due.fit m h.0 h.2 h.3 }, offers_first dues rest h.2 h.1 n h.5)

-- ---- equal offers of which the same became are noted the same

outcome_same : (written : Fit) (own other : Outcome) → Becomes written own → Becomes written other
    → (is_too_large own ≡ false → is_too_large other ≡ false → own ≡ other) → own ≡ other
outcome_same (fit.Whole bytes) own other g h same = same g h
outcome_same (fit.Stripped bytes) own other g h same = same g h
outcome_same (fit.TooLarge size) own other g h same = g ∙ sym h

note_same : (due : Due) (a b : OfferNote) → IsNoteOf due a → IsNoteOf due b → SameFate a b → a ≡ b
note_same due a b g h same =
    g.note_is ∙ (ap (note_of due) (outcome_same due.fit a.outcome b.outcome g.outcome_is h.outcome_is same) ∙ sym h.note_is)

pub same_notes : (dues : List Due) (these those : List OfferNote) → AreNotesOfFirst these dues → AreNotesOfFirst those dues
    → OfferedAlike these those → these ≡ those
same_notes dues [] [] g h s = refl
same_notes dues [] (b ∷ those) g h s = absurd s
same_notes dues (a ∷ these) [] g h s = absurd s
same_notes [] (a ∷ these) (b ∷ those) g h s = absurd g
same_notes (due ∷ dues) (a ∷ these) (b ∷ those) g h s =
    ap₂ (λ (note : OfferNote) rest. note ∷ rest) (note_same due a b g.0 h.0 s.0) (same_notes dues these those g.1 h.1 s.1)

-- ---- a strict sink refuses by the first stage

AreLater : List Due → Type 0
AreLater dues = AllByRecursion (λ (due : Due). is_first due.stage ≡ false) dues

refuses_not : (set : Settings) (due : Due) (note : OfferNote) → IsNoteOf due note → is_first due.stage ≡ false → refuses set note ≡ false
refuses_not set due note h later =
    ap (λ b. b && (is_strict (mode_of set note.sink) && is_failed note.outcome)) (ap (λ (n : OfferNote). is_first n.stage) h.note_is ∙ later)

later_refuse_nothing : (set : Settings) (dues : List Due) (notes : List OfferNote) → AreNotesOfFirst notes dues → AreLater dues → has_refused set notes ≡ false
unfolding AreLater
later_refuse_nothing set dues [] h later = refl
later_refuse_nothing set [] (note ∷ notes) h later = absurd h
later_refuse_nothing set (due ∷ dues) (note ∷ notes) h later =
    ap₂ (λ a b. a || b) (refuses_not set due note h.0 later.0) (later_refuse_nothing set dues notes h.1 later.1)

by_first : (set : Settings) (firsts these_later those_later : List Due) (these those : List OfferNote)
    → AreNotesOfFirst these (firsts ++ these_later) → AreNotesOfFirst those (firsts ++ those_later)
    → AreLater these_later → AreLater those_later → OfferedAlike these those → has_refused set these ≡ has_refused set those
by_first set [] later other these those g h k l s = later_refuse_nothing set later these g k ∙ sym (later_refuse_nothing set other those h l)
by_first set (due ∷ dues) later other [] [] g h k l s = refl
by_first set (due ∷ dues) later other [] (b ∷ those) g h k l s = absurd s
by_first set (due ∷ dues) later other (a ∷ these) [] g h k l s = absurd s
by_first set (due ∷ dues) later other (a ∷ these) (b ∷ those) g h k l s =
    ap₂ (λ own rest. own || rest) (ap (refuses set) (note_same due a b g.0 h.0 s.0)) (by_first set dues later other these those g.1 h.1 k l s.1)

-- ---- which offers are of later stages

all_join : {A : Type 0} (P : A → Type 0) (xs ys : List A) → AllByRecursion P xs → AllByRecursion P ys → AllByRecursion P (xs ++ ys)
all_join P [] ys h k = k
all_join P (x ∷ xs) ys h k = (h.0, all_join P xs ys h.1 k)

all_map : {A B : Type 0} (P : B → Type 0) (f : A → B) (xs : List A) → ((x : A) → P (f x)) → AllByRecursion P (map f xs)
all_map P f [] h = tt
all_map P f (x ∷ xs) h = (h x, all_map P f xs h)

IsLater : Event → Type 0
IsLater e = is_first e.stage ≡ false

due_later : (set : Settings) (events : List Event) → AllByRecursion IsLater events → AreLater (offers_due set events)
unfolding AreLater IsLater
due_later set [] h = tt
due_later set (e ∷ es) h =
    all_join (λ (due : Due). is_first due.stage ≡ false) (map (due_at set e) (sinks_on set)) (offers_due set es)
    (all_map (λ (due : Due). is_first due.stage ≡ false) (due_at set e) (sinks_on set) (λ sink. h.0)) (due_later set es h.1)

by_level : (l : Level) (omitted : Bool) (e : Event) → IsLater e → AllByRecursion IsLater (events_by l omitted e)
by_level level.None omitted e h = tt
by_level level.Metadata true e h = tt
by_level level.Metadata false e h = (h, tt)
by_level level.Request true e h = tt
by_level level.Request false e h = (h, tt)
by_level level.RequestResponse true e h = tt
by_level level.RequestResponse false e h = (h, tt)

stage_later : (d : Decision) (facts : Facts) (own : Stage) → is_first own ≡ false → AllByRecursion IsLater (stage_events d facts own)
unfolding IsLater event
stage_later d facts own h = by_level d.level (omits d.omit own) (event own d.level facts) h

if_long : (b : Bool) (events : List Event) → AllByRecursion IsLater events → AllByRecursion IsLater (cond b events [])
if_long true events h = h
if_long false events h = tt

after_first : Decision → Facts → List Event
after_first d facts = started_events d facts ++ stage_events d facts stage.ResponseComplete

are_later : (d : Decision) (facts : Facts) → AllByRecursion IsLater (after_first d facts)
unfolding after_first
are_later d facts =
    all_join IsLater (started_events d facts) (stage_events d facts stage.ResponseComplete)
    (if_long (is_long_running facts.info) (stage_events d facts stage.ResponseStarted) (stage_later d facts stage.ResponseStarted refl))
    (stage_later d facts stage.ResponseComplete refl)

split_at_first : OwedParts → DueParts → (set : Settings) (d : Decision) (facts : Facts) (firsts : List Event) (notes : List OfferNote)
    → stage_events d facts stage.RequestReceived ≡ firsts
    → AreNotesOfFirst notes (offers_due set (owed d facts)) → AreNotesOfFirst notes (offers_due set firsts ++ offers_due set (after_first d facts))
unfolding after_first
split_at_first parts dues set d facts firsts notes e h =
    subst (AreNotesOfFirst notes)
    (ap (offers_due set) (parts d facts)
    ∙ (dues set (stage_events d facts stage.RequestReceived) (started_events d facts ++ stage_events d facts stage.ResponseComplete)
    ∙ ap (λ (l : List Event). offers_due set l ++ offers_due set (started_events d facts ++ stage_events d facts stage.ResponseComplete)) e)) h

-- two whose events of the first stage are equal are refused alike
pub refused_alike : OwedParts → DueParts → (set : Settings) (d e : Decision) (f g : Facts) (these those : List OfferNote)
    → stage_events d f stage.RequestReceived ≡ stage_events e g stage.RequestReceived
    → AreNotesOfFirst these (offers_due set (owed d f)) → AreNotesOfFirst those (offers_due set (owed e g)) → OfferedAlike these those
    → has_refused set these ≡ has_refused set those
refused_alike parts dues set d e f g these those same own other s =
    by_first set (offers_due set (stage_events e g stage.RequestReceived)) (offers_due set (after_first d f)) (offers_due set (after_first e g)) these those
    (split_at_first parts dues set d f (stage_events e g stage.RequestReceived) these same own)
    (split_at_first parts dues set e g (stage_events e g stage.RequestReceived) those refl other)
    (due_later set (after_first d f) (are_later d f)) (due_later set (after_first e g) (are_later e g)) s

-- ---- at level None nothing is offered

no_notes : (notes : List OfferNote) → AreNotesOfFirst notes [] → notes ≡ []
no_notes [] h = refl
no_notes (note ∷ notes) h = absurd h

pub none_offered : (set : Settings) (d : Decision) (facts : Facts) (notes : List OfferNote) → d.level ≡ level.None
    → AreNotesOfFirst notes (offers_due set (owed d facts)) → notes ≡ []
none_offered set d facts notes e h =
    no_notes notes (subst (λ (l : Level). AreNotesOfFirst notes (offers_due set (owed_at l d.omit facts))) e h)
