-- What a Started leaves, as the code makes it.
use Rattle.std.proofs.Common.{◌≡◌, ℕ, true, false, Bool, List, Option, Some, None, Result, Ok, Err, IfOk, refl, ap, sym, ◌∙◌, subst}
use Rattle.audit_core.specs.Offers.{Due}
use Rattle.audit_core.specs.declared.routed.Handling.{Handling}
use Rattle.front_base.specs.declared.stage.Stage.TheVariants.{ResponseStarted}
use Rattle.model_sinks.specs.Fixed.{Fixed, setup_of}
use Rattle.model_sinks.specs.Running.{TurnsTo}
use Rattle.stage_event.specs.declared.facts.Kept.{Kept}
use Rattle.model_worlds.specs.Setup.{Setup}
use Rattle.model_worlds.specs.Steps.{at_open, can_start, due, facts_started, handling_in, in_exchange, is_ready, started, started_with}
use Rattle.model_worlds.specs.declared.state.Bay.{Bay}
use Rattle.model_worlds.specs.declared.state.Open.{Open}
use Rattle.model_worlds.specs.declared.state.Shared.{Shared}
use Rattle.model_worlds.specs.declared.step.StepAnswer.{StepAnswer}
use Rattle.model_worlds.specs.declared.step.StepAnswer.TheVariants.{Idle, Noted}

pub started_as : (setup : Setup) (status moment : ℕ) (o : Open) (dues : List Due)
    → dues ≡ due setup ResponseStarted o.exchange.level (facts_started status moment o.exchange.facts)
    → record {
      exchange = record o.exchange { facts = facts_started status moment o.exchange.facts };
      phase = record o.phase { started = Some status; last = moment };
      waiting = dues;
    }
    ≡ started_with setup status moment o
started_as setup status moment o dues waits = rw waits refl

pub start_turn : (setup : Setup) (status moment : ℕ) (sh : Shared) (b : Bay) (o new : Open) (handling : Handling)
    → is_ready o moment ≡ true → handling ≡ handling_in setup sh o
    → can_start o.exchange.level handling o status ≡ true → new ≡ started_with setup status moment o
    → TurnsTo (started setup status moment sh b o) sh (record b { current = Some o }) sh
    (record b { current = Some new }) Noted
start_turn setup status moment sh b o new handling ready is can now =
    let e : can_start o.exchange.level (handling_in setup sh o) o status ≡ true =
    ap (λ (own : Handling). can_start o.exchange.level own o status) (sym is) ∙ can in
    rw (ready, e, now) (refl, refl, refl)

pub start_unready : (setup : Setup) (status moment : ℕ) (sh : Shared) (b : Bay) (o : Open) → is_ready o moment ≡ false
    → TurnsTo (started setup status moment sh b o) sh (record b { current = Some o }) sh
    (record b { current = Some o }) Idle
start_unready setup status moment sh b o ready = rw ready (refl, refl, refl)

pub start_refused : (setup : Setup) (status moment : ℕ) (sh : Shared) (b : Bay) (o : Open) (handling : Handling)
    → is_ready o moment ≡ true → handling ≡ handling_in setup sh o
    → can_start o.exchange.level handling o status ≡ false
    → TurnsTo (started setup status moment sh b o) sh (record b { current = Some o }) sh
    (record b { current = Some o }) Idle
start_refused setup status moment sh b o handling ready is can =
    let e : can_start o.exchange.level (handling_in setup sh o) o status ≡ false =
    ap (λ (own : Handling). can_start o.exchange.level own o status) (sym is) ∙ can in
    rw (ready, e) (refl, refl, refl)

-- the turn of a bay

pub start_none : (setup : Setup) (status moment : ℕ) (sh : Shared) (b : Bay) → b.current ≡ None
    → TurnsTo (in_exchange (started setup status moment) sh b) sh b sh b Idle
start_none setup status moment sh b at =
    subst (λ (c : Option Open). TurnsTo (at_open (started setup status moment sh b) c) sh b sh b Idle) (sym at)
    (refl, refl, refl)

pub start_some : {E : Type 0} (own : Fixed) (status moment : ℕ) (sh : Shared) (b : Bay) (o new : Open)
    (r : Result StepAnswer E) → b.current ≡ Some o
    → IfOk r (λ answer. (keep : Bool → List ℕ → Kept) (any : Bay)
    → TurnsTo (started (setup_of own keep) status moment sh any o) sh (record any { current = Some o }) sh
    (record any { current = Some new }) answer)
    → IfOk r (λ answer. (keep : Bool → List ℕ → Kept)
    → TurnsTo (in_exchange (started (setup_of own keep) status moment) sh b) sh b sh
    (record b { current = Some new }) answer)
start_some own status moment sh b o new (Ok answer) at h = λ keep.
    subst
    (λ (c : Option Open). TurnsTo (at_open (started (setup_of own keep) status moment sh b) c) sh
    (record b { current = c }) sh (record b { current = Some new }) answer)
    (sym at)
    (h keep b)
start_some own status moment sh b o new (Err e) at h = tt
