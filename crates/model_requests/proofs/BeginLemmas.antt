-- What a Begin leaves, as the code makes it.
use Rattle.std.proofs.Common.{◌≡◌, ℕ, ◌+◌, ◌<◌, ◌≤◌, arith, ap, ◌∙◌, Bool, true, false, ◌&&◌, List, [], Option, Some, None, refl, sym, subst}
use Rattle.std.specs.Prelude.{is_none, is_some, nat_lt, option_map, if◌then◌else◌}
use Rattle.std.proofs.lemmas.Bool.Decides.{nat_tests}
use Rattle.apiservice_table.specs.declared.change.Change.{Change}
use Rattle.audit_core.specs.Exchange.{AreFirstFacts, IsJudged}
use Rattle.audit_core.specs.Offers.{Due}
use Rattle.audit_core.specs.declared.judged.Judged.{Judged}
use Rattle.audit_core.specs.declared.stamp.Stamp.{Stamp}
use Rattle.model_requests.specs.Bare.{IsBare, bare, completed}
use Rattle.front_base.specs.AuditId.{AuditId}
use Rattle.front_base.specs.declared.audit_id.TheConstants.{MOST_REQUESTS}
use Rattle.front_base.specs.declared.stage.Stage.TheVariants.{RequestReceived}
use Rattle.http_edge.specs.declared.request.Request.{Request}
use Rattle.model_sinks.specs.Fixed.{Keeps}
use Rattle.model_sinks.specs.Running.{TurnsTo}
use Rattle.stage_event.specs.Due.{request_due, shown_as}
use Rattle.stage_event.specs.Kept.{IsKeptAs}
use Rattle.stage_event.specs.declared.facts.Facts.{Facts}
use Rattle.stage_event.specs.declared.facts.Kept.{Kept}
use Rattle.model_worlds.specs.Requests.{Wish, asked_by, kept_if, wish_of}
use Rattle.model_worlds.specs.Setup.{Setup}
use Rattle.model_worlds.specs.Steps.{Turn, begin, begun, due, facts_begun, phase_begun}
use Rattle.model_worlds.specs.declared.state.Bay.{Bay}
use Rattle.model_worlds.specs.declared.state.Exchange.{Exchange}
use Rattle.model_worlds.specs.declared.state.Open.{Open}
use Rattle.model_worlds.specs.declared.state.Shared.{Shared}
use Rattle.model_worlds.specs.declared.step.StepAnswer.TheVariants.{Begun, Idle}

-- ---- the exchange

kept_so : (due omit : Bool) (keep : Bool → List ℕ → Kept) → Keeps keep → (body : List ℕ) (kept : Kept)
    → IsKeptAs (shown_as due omit) body kept → kept ≡ kept_if due (keep omit body)
kept_so false omit keep k body kept h = h
kept_so true false keep k body kept h = sym (k false body kept h)
kept_so true true keep k body kept h = sym (k true body kept h)

-- the stamp of a request that came at that moment
abbrev stamp_at : AuditId → List ℕ → ℕ → Stamp
stamp_at id peer moment = record { id = id; peer = peer; received = moment; started = moment; complete = moment }

facts_as : (setup : Setup) → Keeps setup.keep → (id : AuditId) (peer : List ℕ) (r : Request) (moment : ℕ) (judged : Judged)
    (facts : Facts) → id.boot ≡ setup.boot → IsJudged setup.set r moment judged
    → AreFirstFacts (stamp_at id peer moment) r judged.attributes judged.decision facts
    → facts ≡ facts_begun setup id.bay id.number (wish_of setup peer r moment) moment
unfolding wish_of
facts_as setup k id peer r moment judged facts boot (attributes, errand, decision) (kept, keeps, is) =
    let so = kept_so (request_due judged.decision.level judged.attributes.info) judged.decision.omit_managed setup.keep k r.body kept keeps in
    rw (is, so, attributes, decision, sym boot) refl

pub bare_as : (setup : Setup) → Keeps setup.keep → (id : AuditId) (peer : List ℕ) (r : Request) (moment : ℕ) (judged : Judged)
    (x : Exchange) (dues : List Due) → dues ≡ [] → id.boot ≡ setup.boot → IsJudged setup.set r moment judged
    → IsBare (stamp_at id peer moment) r judged x
    → record { exchange = x; phase = phase_begun moment; waiting = dues }
    ≡ bare setup id.bay id.number (wish_of setup peer r moment) moment
unfolding wish_of
bare_as setup k id peer r moment judged x dues none boot h (facts, first, is) =
    let same = facts_as setup k id peer r moment judged facts boot h first in
    rw (none, is, same, h.1, h.2) refl

begun_as : (setup : Setup) (bay number : ℕ) (peer : List ℕ) (r : Request) (moment : ℕ)
    → begun setup bay number (wish_of setup peer r moment) moment
    ≡ completed setup (bare setup bay number (wish_of setup peer r moment) moment)
unfolding wish_of
begun_as setup bay number peer r moment = refl

pub completed_as : (setup : Setup) (o : Open) (asked : Option Change) (dues : List Due) → asked ≡ asked_by o.exchange.errand
    → dues ≡ due setup RequestReceived o.exchange.level o.exchange.facts
    → record { exchange = record o.exchange { asked = asked }; phase = o.phase; waiting = dues } ≡ completed setup o
completed_as setup o asked dues asks waits = rw (waits, asks) refl

pub current_completed : (setup : Setup) (current : Option Open) (o new : Open) → current ≡ Some o → new ≡ completed setup o
    → Some new ≡ option_map (completed setup) current
current_completed setup current o new at now = rw (at, now) refl

-- ---- the turn

turn_of : (setup : Setup) (bay : ℕ) (w : Wish) (moment : ℕ) (sh : Shared) (b : Bay) (o : Open) → is_none b.current ≡ true
    → nat_lt b.number MOST_REQUESTS ≡ true → begun setup bay b.number w moment ≡ o
    → TurnsTo (begin setup bay w moment sh b) sh b sh (record b { number = b.number + 1; current = Some o }) Begun
turn_of setup bay w moment sh b o none few is = rw (none, few, is) (refl, refl, refl)

none_by : {A : Type 0} (o : Option A) → is_some o ≡ false → is_none o ≡ true
none_by None h = refl
none_by (Some x) h = absurd (cc h)

some_by : {A : Type 0} (o : Option A) → is_some o ≡ true → is_none o ≡ false
some_by None h = absurd (cc h)
some_by (Some x) h = refl

is_nothing : {A : Type 0} (o : Option A) → is_some o ≡ false → o ≡ None
is_nothing None h = refl
is_nothing (Some x) h = absurd (cc h)

pub same_none : (b : Bay) (current : Option Open) → current ≡ None → is_some b.current ≡ false
    → record b { current = current } ≡ b
same_none b current none h =
    ap (λ (o : Option Open). record b { current = o }) (none ∙ sym (is_nothing b.current h))

pub begin_turn : (setup : Setup) (bay : ℕ) (peer : List ℕ) (r : Request) (moment : ℕ) (sh : Shared) (b : Bay) (o : Open)
    (current : Option Open) → is_some b.current ≡ false → b.number < MOST_REQUESTS
    → o ≡ bare setup bay b.number (wish_of setup peer r moment) moment → current ≡ Some (completed setup o)
    → TurnsTo (begin setup bay (wish_of setup peer r moment) moment sh b) sh b sh
    (record b { number = b.number + 1; current = current }) Begun
begin_turn setup bay peer r moment sh b o current none below is now =
    let few : nat_lt b.number MOST_REQUESTS ≡ true = grind (arith, nat_tests) in
    subst
    (λ (c : Option Open). TurnsTo (begin setup bay (wish_of setup peer r moment) moment sh b) sh b sh
    (record b { number = b.number + 1; current = c }) Begun)
    (sym now)
    (turn_of setup bay (wish_of setup peer r moment) moment sh b (completed setup o) (none_by b.current none) few
    (begun_as setup bay b.number peer r moment ∙ ap (completed setup) (sym is)))

idle_if : (can : Bool) (t : Turn) (sh : Shared) (b : Bay) → can ≡ false
    → TurnsTo (if can then Some t else None) sh b sh b Idle
idle_if can t sh b h = rw h (refl, refl, refl)

pub begin_busy : (setup : Setup) (bay : ℕ) (w : Wish) (moment : ℕ) (sh : Shared) (b : Bay) → is_some b.current ≡ true
    → TurnsTo (begin setup bay w moment sh b) sh b sh b Idle
begin_busy setup bay w moment sh b h =
    let no : (is_none b.current && nat_lt b.number MOST_REQUESTS) ≡ false = rw (some_by b.current h) refl in
    idle_if (is_none b.current && nat_lt b.number MOST_REQUESTS) _ sh b no

pub begin_spent : (setup : Setup) (bay : ℕ) (w : Wish) (moment : ℕ) (sh : Shared) (b : Bay) → is_some b.current ≡ false
    → MOST_REQUESTS ≤ b.number → TurnsTo (begin setup bay w moment sh b) sh b sh b Idle
begin_spent setup bay w moment sh b none above =
    let h : nat_lt b.number MOST_REQUESTS ≡ false = grind (arith, nat_tests) in
    let no : (is_none b.current && nat_lt b.number MOST_REQUESTS) ≡ false = rw (none_by b.current none, h) refl in
    idle_if (is_none b.current && nat_lt b.number MOST_REQUESTS) _ sh b no
