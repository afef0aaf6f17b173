-- Events of exchanges that were read fit a line of `line_limit` bytes.
use Rattle.std.proofs.Common.{◌≡◌, ℕ, ◌<◌, ◌≤◌, ◌^◌, Bool, false, List, [], ◌∷◌, ◌++◌, map, refl, ap, sym, ◌∙◌, subst}
use Rattle.std.proofs.lemmas.List.Elements.{All-cons, All-nil}
use Rattle.std.specs.List.{AllByRecursion}
use Rattle.alike_requests.specs.Seen.{AreNoted, AreNotesOfFirst, Becomes, IsNoted, Seen, is_too_large, noted_by}
use Rattle.audit_core.specs.Errand.{attributes_in}
use Rattle.audit_core.specs.Exchange.{facts_by}
use Rattle.audit_core.specs.Offers.{Due, due_at, offers_due, sinks_on}
use Rattle.audit_core.specs.Owed.{owed, owed_at, stages_due}
use Rattle.audit_core.specs.declared.offers.OfferNote.{OfferNote}
use Rattle.audit_core.specs.declared.offers.Outcome.{Outcome}
use Rattle.audit_core.specs.declared.offers.Outcome.TheVariants as outcome
use Rattle.audit_core.specs.declared.settings.Settings.{Settings}
use Rattle.audit_core.specs.declared.sinks.Sink.{Sink}
use Rattle.audit_core.specs.declared.stamp.Stamp.{Stamp}
use Rattle.fact_ranges.specs.InRange.{AreInRange}
use Rattle.fact_ranges.specs.Ranges.{IsPeer}
use Rattle.front_base.specs.declared.level.Level.{Level}
use Rattle.front_base.specs.declared.level.Level.TheVariants as levels
use Rattle.front_base.specs.declared.moment.TheConstants.{MOMENT_END}
use Rattle.front_base.specs.declared.stage.Stage.{Stage}
use Rattle.http_edge.specs.Requests.{StartsWith}
use Rattle.http_edge.specs.declared.request.Request.{Request}
use Rattle.line_bounds.specs.Bounds.{IsAddress}
use Rattle.policy_rules.specs.declared.omit.Omit.{Omit}
use Rattle.request_bounds.specs.Bounds.{IsOffered, IsStamp, IsWritten, line_limit}
use Rattle.run_bounds.specs.Bounds.{AllFit, Fits}
use Rattle.run_bounds.proofs.KnownLemmas.{AllKnown, IsKnown, all_join}
use Rattle.session_core.specs.declared.exchange.Exchange.{Exchange}
use Rattle.stage_event.specs.Events.{event}
use Rattle.stage_event.specs.declared.event.Event.{Event}
use Rattle.stage_event.specs.declared.facts.Facts.{Facts}
use Rattle.stage_event.specs.declared.facts.Kept.{Kept}
use Rattle.truncate_backend.specs.Fits.{fitted}
use Rattle.truncate_backend.specs.declared.fitted.Fit.{Fit}
use Rattle.truncate_backend.specs.declared.fitted.Fit.TheVariants as fit

-- the law that is called
abbrev pub EventsFit : Type 0
EventsFit =
    (set : Settings) (stamp : Stamp) (r : Request) (status : ℕ) (request reply : Kept) (stage : Stage) (level : Level) (bytes after : List ℕ) (max : ℕ)
    → StartsWith bytes r after → IsStamp stamp → status < 2 ^ 16 → line_limit set.tokens ≤ max
    → IsWritten (fitted (event stage level (facts_by stamp r (attributes_in set r) status request reply)) max)

-- ---- the events of one exchange

all_map : {A B : Type 0} (P : B → Type 0) (f : A → B) (xs : List A) → ((x : A) → P (f x)) → AllByRecursion P (map f xs)
all_map P f [] h = tt
all_map P f (x ∷ xs) h = (h x, all_map P f xs h)

all_owed : (P : Event → Type 0) (level : Level) (omit : Omit) (facts : Facts) → ((stage : Stage) (level : Level) → P (event stage level facts))
    → AllByRecursion P (owed_at level omit facts)
all_owed P levels.None omit facts h = tt
all_owed P levels.Metadata omit facts h = all_map P (λ stage. event stage levels.Metadata facts) (stages_due omit facts.info) (λ stage. h stage levels.Metadata)
all_owed P levels.Request omit facts h = all_map P (λ stage. event stage levels.Request facts) (stages_due omit facts.info) (λ stage. h stage levels.Request)
all_owed P levels.RequestResponse omit facts h =
    all_map P (λ stage. event stage levels.RequestResponse facts) (stages_due omit facts.info) (λ stage. h stage levels.RequestResponse)

abbrev is_byte : ℕ → Type 0
is_byte b = b < 256

address_of : (ip : List ℕ) → IsPeer ip → IsAddress ip
address_of [] h = absurd h
address_of (a ∷ []) h = absurd h
address_of (a ∷ b ∷ []) h = absurd h
address_of (a ∷ b ∷ c ∷ []) h = absurd h
address_of (a ∷ b ∷ c ∷ d ∷ []) h = (
  refl,
  All-cons is_byte a (b ∷ c ∷ d ∷ []) h.0
      (All-cons is_byte b (c ∷ d ∷ []) h.1 (All-cons is_byte c (d ∷ []) h.2 (All-cons is_byte d [] h.3 (All-nil is_byte)))),
)
address_of (a ∷ b ∷ c ∷ d ∷ e ∷ more) h = absurd h

-- what is noted of a stamp is in the range of its types
stamp_in_range : (set : Settings) (s : Seen) → IsNoted set s → AreInRange s.exchange.facts → IsStamp s.stamp
stamp_in_range set s g range = record {
  peer = subst IsAddress (ap (λ (f : Facts). f.peer) g.facts_are) (address_of s.exchange.facts.peer range.peer);
  received = subst (λ (n : ℕ). n < MOMENT_END) (ap (λ (f : Facts). f.received) g.facts_are) range.received;
  started = subst (λ (n : ℕ). n < MOMENT_END) (ap (λ (f : Facts). f.started) g.facts_are) range.started;
  complete = subst (λ (n : ℕ). n < MOMENT_END) (ap (λ (f : Facts). f.complete) g.facts_are) range.complete;
}

event_fits : EventsFit → (set : Settings) (s : Seen) → IsNoted set s → IsKnown s.exchange → line_limit set.tokens ≤ set.max_event
    → (stage : Stage) (level : Level) → IsWritten (fitted (event stage level s.exchange.facts) set.max_event)
event_fits fits set s g known limit stage level =
    subst (λ (f : Facts). IsWritten (fitted (event stage level f) set.max_event)) (sym g.facts_are)
    (fits set s.stamp s.request s.exchange.facts.status s.exchange.facts.request s.exchange.facts.reply stage level known.read.bytes known.read.after set.max_event
    (subst (λ (r : Request). StartsWith known.read.bytes r known.read.after) g.asked known.read.starts) (stamp_in_range set s g known.in_range)
    known.in_range.status limit)

-- ---- its notes

not_large : (own : Outcome) → is_too_large own ≡ false → IsOffered own
not_large outcome.Taken e = tt
not_large outcome.Full e = tt
not_large outcome.Failed e = tt
not_large (outcome.TooLarge size) e = absurd cc

written_offered : (written : Fit) (own : Outcome) → IsWritten written → Becomes written own → IsOffered own
written_offered (fit.Whole line) own w h = not_large own h
written_offered (fit.Stripped line) own w h = not_large own h
written_offered (fit.TooLarge size) own w h = absurd w

all_due : (set : Settings) (events : List Event) → AllByRecursion (λ (e : Event). IsWritten (fitted e set.max_event)) events
    → AllByRecursion (λ (due : Due). IsWritten due.fit) (offers_due set events)
all_due set [] h = tt
all_due set (e ∷ es) h =
    all_join (λ (due : Due). IsWritten due.fit) (map (due_at set e) (sinks_on set)) (offers_due set es)
    (all_map (λ (due : Due). IsWritten due.fit) (due_at set e) (sinks_on set) (λ sink. h.0)) (all_due set es h.1)

all_notes : (notes : List OfferNote) (dues : List Due) → AllByRecursion (λ (due : Due). IsWritten due.fit) dues → AreNotesOfFirst notes dues
    → AllByRecursion (λ (note : OfferNote). IsOffered note.outcome) notes
all_notes [] dues w h = tt
all_notes (note ∷ notes) [] w h = absurd h
all_notes (note ∷ notes) (due ∷ dues) w h = (written_offered due.fit note.outcome w.0 h.0.outcome_is, all_notes notes dues w.1 h.1)

-- ---- all of it

one_fits : EventsFit → (set : Settings) (s : Seen) → IsNoted set s → IsKnown s.exchange → line_limit set.tokens ≤ set.max_event
    → Fits set s.exchange
one_fits fits set s g known limit =
    let events = all_owed (λ (e : Event). IsWritten (fitted e set.max_event)) s.exchange.decision.level s.exchange.decision.omit s.exchange.facts
    (event_fits fits set s g known limit) in
    record {
      events = events;
      offers = all_notes s.exchange.offers (offers_due set (owed s.exchange.decision s.exchange.facts))
          (all_due set (owed s.exchange.decision s.exchange.facts) events) g.offers_are;
    }

pub all_fit : EventsFit → (set : Settings) → line_limit set.tokens ≤ set.max_event → (all : List Seen) → AreNoted set all
    → AllKnown (noted_by all) → AllFit set (noted_by all)
all_fit fits set limit [] g known = tt
all_fit fits set limit (s ∷ all) g known = (one_fits fits set s g.0 known.0 limit, all_fit fits set limit all g.1 known.1)
