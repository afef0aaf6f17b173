-- What a Finish leaves, as the code makes it.
use Rattle.std.proofs.Common.{◌≡◌, ℕ, Bool, true, false, ◌&&◌, List, [], Option, Some, None, Result, Ok, Err, IfOk, refl, ap, sym, ◌∙◌, subst}
use Rattle.std.specs.Prelude.{if◌then◌else◌}
use Rattle.model_requests.specs.Turns.{FinishesCurrent, answer_to, finished_by}
use Rattle.audit_core.specs.Answer.{body_of, status_of}
use Rattle.audit_core.specs.Offers.{Due}
use Rattle.audit_core.specs.declared.link_note.LinkNote.{LinkNote}
use Rattle.audit_core.specs.declared.link_note.LinkNote.TheVariants.{NotUsed}
use Rattle.audit_core.specs.declared.routed.Handling.{Handling}
use Rattle.front_base.specs.declared.stage.Stage.TheVariants.{ResponseComplete}
use Rattle.model_offers.specs.Turns.{SettledTo}
use Rattle.model_sinks.specs.Fixed.{Fixed, Keeps, setup_of}
use Rattle.model_sinks.specs.Running.{TurnsTo}
use Rattle.stage_event.specs.Due.{reply_due, shown_as}
use Rattle.stage_event.specs.Kept.{IsKept, IsKeptAs}
use Rattle.stage_event.specs.declared.facts.Kept.{Kept}
use Rattle.stage_event.specs.declared.show.Show.{Show}
use Rattle.model_worlds.specs.Setup.{Setup}
use Rattle.model_worlds.specs.Steps.{at_open, can_finish, due, finished, finished_with, handling_in, in_exchange, is_proxied, is_ready, link_in, own_reply, reply_in, sent, settled}
use Rattle.model_worlds.specs.declared.state.Bay.{Bay}
use Rattle.model_worlds.specs.declared.state.Exchange.{Exchange}
use Rattle.model_worlds.specs.declared.state.Open.{Open}
use Rattle.model_worlds.specs.declared.state.Shared.{Shared}
use Rattle.model_worlds.specs.declared.step.StepAnswer.TheVariants.{Idle, Noted}

-- ---- the reply's body

shown_kept : (managed : Bool) (body : List ℕ) (kept : Kept) → IsKeptAs (shown_as true managed) body kept → IsKept managed body kept
shown_kept true body kept h = h
shown_kept false body kept h = h

pub own_kept : {E : Type 0} (handling : Handling) (managed is_head : Bool) (show : Show) (r : Result Kept E)
    → show ≡ shown_as true managed → IfOk r (IsKeptAs show (sent is_head (body_of handling NotUsed [])))
    → IfOk r (λ kept. (own : Fixed) (keep : Bool → List ℕ → Kept) → Keeps keep
    → own_reply (setup_of own keep) handling managed is_head ≡ kept)
unfolding own_reply
own_kept handling managed is_head show (Ok kept) is h = λ own keep k.
    let body = sent is_head (body_of handling NotUsed []) in
    k managed body kept (shown_kept managed body kept (subst (λ (s : Show). IsKeptAs s body kept) is h))
own_kept handling managed is_head show (Err e) is h = tt

pub reply_own : {E : Type 0} (handling : Handling) (o : Open) (reply : Kept) (r : Result Kept E)
    → reply_due o.exchange.level o.exchange.facts.info ≡ true → is_proxied handling ≡ false
    → IfOk r (λ kept. (own : Fixed) (keep : Bool → List ℕ → Kept) → Keeps keep
    → own_reply (setup_of own keep) handling o.exchange.managed o.exchange.is_head ≡ kept)
    → IfOk r (λ kept. (own : Fixed) (keep : Bool → List ℕ → Kept) → Keeps keep
    → reply_in (setup_of own keep) handling o reply ≡ kept)
reply_own handling o reply (Ok kept) due here h = λ own keep k. rw (due, here) (h own keep k)
reply_own handling o reply (Err e) due here h = tt

-- ---- the exchange

pub noted_as : (setup : Setup) (link : LinkNote) (status : ℕ) (reply : Kept) (moment : ℕ) (o : Open) (dues : List Due)
    → dues
    ≡ due setup ResponseComplete o.exchange.level
    (record o.exchange.facts { status = status; reply = reply; complete = moment })
    → record {
      exchange = record o.exchange {
        facts = record o.exchange.facts { status = status; reply = reply; complete = moment };
        link = link;
      };
      phase = record o.phase { finished = true; last = moment };
      waiting = dues;
    }
    ≡ finished_by setup link status reply moment o
noted_as setup link status reply moment o dues waits = rw waits refl

pub finished_as : (own : Fixed) (keep : Bool → List ℕ → Kept) (handling : Handling) (link noted : LinkNote) (status : ℕ)
    (reply shown : Kept) (moment : ℕ) (o new : Open) → status ≡ status_of handling link → noted ≡ link_in handling link
    → reply_in (setup_of own keep) handling o reply ≡ shown
    → new ≡ finished_by (setup_of own keep) noted status shown moment o
    → new ≡ finished_with (setup_of own keep) handling link reply moment o
finished_as own keep handling link noted status reply shown moment o new is notes shows now =
    now ∙ ap (λ (n : ℕ). finished_by (setup_of own keep) noted n shown moment o) is
    ∙ ap (λ (n : LinkNote). finished_by (setup_of own keep) n (status_of handling link) shown moment o) notes
    ∙ ap (λ (k : Kept). finished_by (setup_of own keep) (link_in handling link) (status_of handling link) k moment o)
    (sym shows)

-- then it is settled
pub current_finished : (setup : Setup) (handling : Handling) (link : LinkNote) (reply : Kept) (moment : ℕ)
    (closed same new_closed : List Exchange) (current after : Option Open) (o new : Open) → current ≡ Some o
    → same ≡ closed → new ≡ finished_with setup handling link reply moment o → SettledTo new same new_closed after
    → FinishesCurrent setup handling link reply moment closed current new_closed after
current_finished setup handling link reply moment closed same new_closed current after o new at kept is settles =
    subst
    (λ c. FinishesCurrent setup handling link reply moment closed c new_closed after)
    (sym at)
    (subst (λ (cs : List Exchange). SettledTo (finished_with setup handling link reply moment o) cs new_closed after) kept
    (subst (λ (x : Open). SettledTo x same new_closed after) is settles))

pub same_bay : (b : Bay) (closed : List Exchange) (current : Option Open) → closed ≡ b.closed → current ≡ b.current
    → record b { closed = closed; current = current } ≡ b
same_bay b closed current is at = rw (is, at) refl

-- ---- the turn

answered : (can : Bool) (own handling : Handling) → (if can then Some own else None) ≡ Some handling
    → (can ≡ true) × (own ≡ handling)
answered true own handling e = (refl, cc)
answered false own handling e = absurd (cc e)

unanswered : (can : Bool) (own : Handling) → (if can then Some own else None) ≡ None → can ≡ false
unanswered true own e = absurd (cc e)
unanswered false own e = refl

pub answer_some : (setup : Setup) (link : LinkNote) (moment : ℕ) (sh : Shared) (current : Option Open) (o : Open)
    (handling : Handling) (status : ℕ) → current ≡ Some o → is_ready o moment ≡ true → handling ≡ handling_in setup sh o
    → status ≡ status_of handling link → can_finish o.exchange.level o status ≡ true
    → Some handling ≡ answer_to setup link moment sh current
answer_some setup link moment sh current o handling status at ready is states can =
    let e : can_finish o.exchange.level o (status_of (handling_in setup sh o) link) ≡ true =
    ap (λ (h : Handling). can_finish o.exchange.level o (status_of h link)) (sym is)
    ∙ ap (λ (n : ℕ). can_finish o.exchange.level o n) (sym states)
    ∙ can in
    rw (at, ready, e) (ap Some is)

pub answer_none : (setup : Setup) (link : LinkNote) (moment : ℕ) (sh : Shared) (current : Option Open) (o : Open)
    (handling : Handling) (status : ℕ) → current ≡ Some o → is_ready o moment ≡ true → handling ≡ handling_in setup sh o
    → status ≡ status_of handling link → can_finish o.exchange.level o status ≡ false
    → None ≡ answer_to setup link moment sh current
answer_none setup link moment sh current o handling status at ready is states can =
    let e : can_finish o.exchange.level o (status_of (handling_in setup sh o) link) ≡ false =
    ap (λ (h : Handling). can_finish o.exchange.level o (status_of h link)) (sym is)
    ∙ ap (λ (n : ℕ). can_finish o.exchange.level o n) (sym states)
    ∙ can in
    rw (at, ready, e) refl

pub finish_turn : (setup : Setup) (link : LinkNote) (reply : Kept) (moment : ℕ) (sh : Shared) (b : Bay)
    (handling : Handling) (new_closed : List Exchange) (current after : Option Open) → b.current ≡ current
    → answer_to setup link moment sh current ≡ Some handling
    → FinishesCurrent setup handling link reply moment b.closed current new_closed after
    → TurnsTo (in_exchange (finished setup link reply moment) sh b) sh b sh
    (record b { closed = new_closed; current = after }) Noted
finish_turn setup link reply moment sh b handling new_closed None after at is done = absurd (cc is)
finish_turn setup link reply moment sh b handling new_closed (Some o) after at is done =
    let own = handling_in setup sh o in
    let can = answered (is_ready o moment && can_finish o.exchange.level o (status_of own link)) own handling is in
    let left : settled b (finished_with setup own link reply moment o)
    ≡ record b { closed = new_closed; current = after } =
    ap (λ (h : Handling). settled b (finished_with setup h link reply moment o)) can.1 ∙ done b refl in
    subst
    (λ c. TurnsTo (at_open (finished setup link reply moment sh b) c) sh b sh
    (record b { closed = new_closed; current = after }) Noted)
    (sym at)
    (rw can.0 (refl, sym left, refl))

pub finish_not : (setup : Setup) (link : LinkNote) (reply : Kept) (moment : ℕ) (sh : Shared) (b : Bay)
    (current : Option Open) → b.current ≡ current → answer_to setup link moment sh current ≡ None
    → TurnsTo (in_exchange (finished setup link reply moment) sh b) sh b sh b Idle
finish_not setup link reply moment sh b None at is =
    subst (λ c. TurnsTo (at_open (finished setup link reply moment sh b) c) sh b sh b Idle) (sym at) (refl, refl, refl)
finish_not setup link reply moment sh b (Some o) at is =
    let own = handling_in setup sh o in
    let can = unanswered (is_ready o moment && can_finish o.exchange.level o (status_of own link)) own is in
    subst (λ c. TurnsTo (at_open (finished setup link reply moment sh b) c) sh b sh b Idle) (sym at)
    (rw can (refl, refl, refl))
