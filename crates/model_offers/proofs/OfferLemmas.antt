-- What an offer leaves, as the code makes it.
use Rattle.std.proofs.Common.{◌≡◌, ◌∙◌, ℕ, ◌<◌, true, false, ◌||◌, length, arith, Bool, List, [], ◌∷◌, ◌++◌, drop, slice_index_or, Option, Some, None, ap, sym, refl, subst}
use Rattle.std.specs.Prelude.{if◌then◌else◌}
use Rattle.audit_core.specs.Offers.{Due, refuses}
use Rattle.audit_core.specs.declared.offers.OfferNote.{OfferNote}
use Rattle.audit_core.specs.declared.offers.Outcome.{Outcome}
use Rattle.audit_core.specs.declared.settings.Settings.{Settings}
use Rattle.audit_core.specs.declared.sinks.Sink.{Sink}
use Rattle.model_offers.specs.Turns.{OffersCurrent, OffersFirst, SettledTo, can_offer, waits_for}
use Rattle.model_sinks.specs.Fixed.{Fixed, setup_of}
use Rattle.model_sinks.specs.Running.{PushedTo, TurnsTo}
use Rattle.stage_event.specs.declared.facts.Kept.{Kept}
use Rattle.model_worlds.specs.Setup.{Setup}
use Rattle.model_worlds.specs.Steps.{Pushed, at_open, in_exchange, note_of, noted, offer, offered, offered_with, pushed, settled}
use Rattle.model_worlds.specs.declared.state.Bay.{Bay}
use Rattle.model_worlds.specs.declared.state.Exchange.{Exchange}
use Rattle.model_worlds.specs.declared.state.Open.{Open}
use Rattle.model_worlds.specs.declared.state.Shared.{Shared}
use Rattle.model_worlds.specs.declared.step.StepAnswer.TheVariants.{Idle, Offered}
use Rattle.model_worlds.specs.declared.step.TryTold.{TryTold}

-- an exchange with these notes, of which that is the last, and these offers that wait
abbrev noted_as : Settings → Open → List Due → List OfferNote → OfferNote → Open
noted_as set o rest notes note =
    record {
      exchange = record o.exchange { notes = notes };
      phase = record o.phase { failed = o.phase.failed || refuses set note };
      waiting = rest;
    }

pub offered_first : (setup : Setup) (bay : ℕ) (works : TryTold) (sh new_sh : Shared) (o new : Open) (note : OfferNote)
    (due : Due) (ws : List Due) (notes : List OfferNote) → due ≡ slice_index_or ws 0 due
    → PushedTo (pushed setup bay works sh due) due.sink sh new_sh note.outcome → note ≡ note_of due note.outcome
    → notes ≡ o.exchange.notes ++ note ∷ []
    → new ≡ record {
      exchange = record o.exchange { notes = notes };
      phase = record o.phase { failed = o.phase.failed || refuses setup.set note };
      waiting = drop 1 ws;
    }
    → OffersFirst setup bay works sh o note.outcome new_sh new ws
offered_first setup bay works sh new_sh o new note due [] notes at push is more now = tt
offered_first setup bay works sh new_sh o new note due (w ∷ rest) notes at push is more now =
    let e : note ≡ note_of w note.outcome = is ∙ ap (λ d. note_of d note.outcome) at in (
      subst (λ d. PushedTo (pushed setup bay works sh d) d.sink sh new_sh note.outcome) at push,
      now ∙ ap (λ ns. noted_as setup.set o rest ns note) more
          ∙ ap (λ n. noted_as setup.set o rest (o.exchange.notes ++ n ∷ []) n) e,
    )

-- what waits for a sink is something
pub waits_some : (sink : Sink) (ws : List Due) → waits_for sink ws ≡ true → 0 < length ws
waits_some sink [] h = absurd (cc h)
waits_some sink (w ∷ rest) h = omega arith

pub current_waits : (sink : Sink) (current : Option Open) (o : Open) → current ≡ Some o → can_offer current sink ≡ true
    → 0 < length o.waiting
current_waits sink current o at can =
    waits_some sink o.waiting (subst (λ c. can_offer c sink ≡ true) at can)

-- then the exchange is settled
pub current_offered : (own : Fixed) (bay : ℕ) (works : TryTold) (sh new_sh : Shared)
    (closed same new_closed : List Exchange) (current after : Option Open) (o new : Open) (became : Outcome)
    → current ≡ Some o → same ≡ closed
    → ((keep : Bool → List ℕ → Kept) → OffersFirst (setup_of own keep) bay works sh o became new_sh new o.waiting)
    → SettledTo new same new_closed after
    → (keep : Bool → List ℕ → Kept) → OffersCurrent (setup_of own keep) bay works sh closed current became new_sh new_closed after
current_offered own bay works sh new_sh closed same new_closed current after o new became at is offers settles keep =
    subst
    (λ c. OffersCurrent (setup_of own keep) bay works sh closed c became new_sh new_closed after)
    (sym at)
    (new, offers keep, subst (λ (cs : List Exchange). SettledTo new cs new_closed after) is settles)

-- where it was not offered, all stays
pub same_bay : (b : Bay) (closed : List Exchange) (current : Option Open) → closed ≡ b.closed → current ≡ b.current
    → record b { closed = closed; current = current } ≡ b
same_bay b closed current is at = rw (is, at) refl

-- and that is a turn, whatever the sink did
turn_with : (setup : Setup) (sh new_sh : Shared) (b : Bay) (new_closed : List Exchange) (after : Option Open) (o new : Open)
    (own : Outcome) (w : Due) (rest : List Due) (p : Pushed) → PushedTo p w.sink sh new_sh own
    → new ≡ noted setup w rest own o → SettledTo new b.closed new_closed after
    → TurnsTo (Some (offered_with setup sh b o w rest p)) sh b new_sh
    (record b { closed = new_closed; current = after }) (Offered own)
turn_with setup sh new_sh b new_closed after o new own w rest p push is settles =
    (push.0, sym (settles b refl) ∙ ap (settled b) (is ∙ ap (λ x. noted setup w rest x o) push.1), ap Offered push.1)

turn_at : (setup : Setup) (bay : ℕ) (sink : Sink) (works : TryTold) (sh new_sh : Shared) (b : Bay)
    (new_closed : List Exchange) (after : Option Open) (o new : Open) (own : Outcome) (ws : List Due)
    → waits_for sink ws ≡ true → OffersFirst setup bay works sh o own new_sh new ws
    → SettledTo new b.closed new_closed after
    → TurnsTo (offered setup bay sink works sh b o ws) sh b new_sh
    (record b { closed = new_closed; current = after }) (Offered own)
turn_at setup bay sink works sh new_sh b new_closed after o new own [] can offers settles = absurd (cc can)
turn_at setup bay sink works sh new_sh b new_closed after o new own (w ∷ rest) can offers settles =
    subst
    (λ c. TurnsTo (if c then Some (offered_with setup sh b o w rest (pushed setup bay works sh w)) else None) sh b new_sh
    (record b { closed = new_closed; current = after }) (Offered own))
    (sym can)
    (turn_with setup sh new_sh b new_closed after o new own w rest (pushed setup bay works sh w) offers.0 offers.1 settles)

pub offer_turn : (setup : Setup) (bay : ℕ) (sink : Sink) (works : TryTold) (sh new_sh : Shared) (b : Bay)
    (new_closed : List Exchange) (current after : Option Open) (own : Outcome) → b.current ≡ current
    → can_offer current sink ≡ true → OffersCurrent setup bay works sh b.closed current own new_sh new_closed after
    → TurnsTo (in_exchange (offer setup bay sink works) sh b) sh b new_sh
    (record b { closed = new_closed; current = after }) (Offered own)
offer_turn setup bay sink works sh new_sh b new_closed None after own at can offers = absurd (cc can)
offer_turn setup bay sink works sh new_sh b new_closed (Some o) after own at can (new, offers, settles) =
    subst
    (λ c. TurnsTo (at_open (offer setup bay sink works sh b) c) sh b new_sh
    (record b { closed = new_closed; current = after }) (Offered own))
    (sym at)
    (turn_at setup bay sink works sh new_sh b new_closed after o new own o.waiting can offers settles)

-- an offer that can't be taken

idle_at : (setup : Setup) (bay : ℕ) (sink : Sink) (works : TryTold) (sh : Shared) (b : Bay) (o : Open) (ws : List Due)
    → waits_for sink ws ≡ false → TurnsTo (offered setup bay sink works sh b o ws) sh b sh b Idle
idle_at setup bay sink works sh b o [] can = (refl, refl, refl)
idle_at setup bay sink works sh b o (w ∷ rest) can =
    subst
    (λ c. TurnsTo (if c then Some (offered_with setup sh b o w rest (pushed setup bay works sh w)) else None) sh b sh b Idle)
    (sym can)
    (refl, refl, refl)

pub offer_idle : (setup : Setup) (bay : ℕ) (sink : Sink) (works : TryTold) (sh : Shared) (b : Bay) (current : Option Open)
    → b.current ≡ current → can_offer current sink ≡ false
    → TurnsTo (in_exchange (offer setup bay sink works) sh b) sh b sh b Idle
offer_idle setup bay sink works sh b None at can =
    subst (λ c. TurnsTo (at_open (offer setup bay sink works sh b) c) sh b sh b Idle) (sym at) (refl, refl, refl)
offer_idle setup bay sink works sh b (Some o) at can =
    subst
    (λ c. TurnsTo (at_open (offer setup bay sink works sh b) c) sh b sh b Idle)
    (sym at)
    (idle_at setup bay sink works sh b o o.waiting can)
