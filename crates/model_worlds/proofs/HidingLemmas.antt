-- What is hidden twice is hidden once, and what a level records decides what the sinks are due.
use Rattle.std.proofs.Common.{◌≡◌, ℕ, Bool, true, false, ◌&&◌, List, [], ◌∷◌, ◌++◌, map, Option, Some, None, refl, ap, sym, ◌∙◌}
use Rattle.std.specs.Prelude.{if◌then◌else◌, option_map}
use Rattle.audit_core.specs.Offers.{offers_due}
use Rattle.audit_core.specs.Owed.{omits}
use Rattle.audit_core.specs.declared.errand.Errand.{Errand}
use Rattle.front_base.specs.declared.info.Info.{Info}
use Rattle.front_base.specs.declared.level.Level.{Level}
use Rattle.front_base.specs.declared.level.Level.TheVariants as level
use Rattle.front_base.specs.declared.stage.Stage.{Stage}
use Rattle.front_base.specs.declared.user.User.{User}
use Rattle.policy_rules.specs.Policy.{first}
use Rattle.policy_rules.specs.declared.policy.Policy.{Policy}
use Rattle.stage_event.specs.Due.{request_due, reply_due}
use Rattle.stage_event.specs.Events.{event, event_of}
use Rattle.stage_event.specs.Views.{view, recorded, shown, shown_if}
use Rattle.stage_event.specs.declared.facts.Facts.{Facts}
use Rattle.stage_event.specs.declared.facts.Kept.{Kept}
use Rattle.stage_event.specs.declared.facts.Kept.TheVariants.{NotAsked, Compact, NotJson, Over, CutOff}
use Rattle.model_worlds.specs.Setup.{Setup}
use Rattle.model_worlds.specs.Steps.{due, events_due, event_unless, no_wait, settled}
use Rattle.model_worlds.specs.Worlds.{low_closed, low_errand, low_head, low_managed, low_exchange, low_open, low_bay, low}
use Rattle.model_worlds.specs.declared.state.Bay.{Bay}
use Rattle.model_worlds.specs.declared.state.Exchange.{Exchange}
use Rattle.model_worlds.specs.declared.state.Open.{Open}
use Rattle.model_worlds.specs.declared.state.State.{State}

pub both : {A B C : Type 0} (f : A → B → C) {a a' : A} {b b' : B} → a ≡ a' → b ≡ b' → f a b ≡ f a' b'
both f {a} {a'} {b} {b'} p q = ap (λ x. f x b) p ∙ ap (f a') q

pub and_twice : (a b : Bool) → (a && (a && b)) ≡ (a && b)
and_twice true b = refl
and_twice false b = refl

-- ---- views

pub shown_twice : (k : Kept) → shown (shown k) ≡ shown k
shown_twice (Compact text) = refl
shown_twice NotAsked = refl
shown_twice NotJson = refl
shown_twice Over = refl
shown_twice CutOff = refl

pub shown_if_twice : (b : Bool) (k : Kept) → shown_if b (shown_if b k) ≡ shown_if b k
shown_if_twice true k = shown_twice k
shown_if_twice false k = refl

pub moment_twice : (b : Bool) (n : ℕ) → (if b then (if b then n else 0) else 0) ≡ (if b then n else 0)
moment_twice true n = refl
moment_twice false n = refl

recorded_twice : (request reply : Bool) (f : Facts) → recorded request reply (recorded request reply f) ≡ recorded request reply f
recorded_twice a b f = simp (shown_if_twice, moment_twice)

pub view_twice : (l : Level) (f : Facts) → view l (view l f) ≡ view l f
view_twice level.None f = refl
view_twice level.Metadata f = recorded_twice false false f
view_twice level.Request f = recorded_twice (request_due level.Request f.info) false f
view_twice level.RequestResponse f =
    recorded_twice (request_due level.RequestResponse f.info) (reply_due level.RequestResponse f.info) f

-- ---- the sinks are due what the view decides

same_event : (stage : Stage) (l : Level) (f g : Facts) → view l f ≡ view l g → event stage l f ≡ event stage l g
unfolding event
same_event stage l f g e = ap (event_of stage l) e

same_omitted : (policy : Policy) (stage : Stage) (f g : Facts) → f.user ≡ g.user → f.info ≡ g.info
    → omits (first policy f.user f.info).omit stage ≡ omits (first policy g.user g.info).omit stage
same_omitted policy stage f g u i = both (λ (user : User) (info : Info). omits (first policy user info).omit stage) u i

same_events : (policy : Policy) (stage : Stage) (l : Level) (f g : Facts) → view l f ≡ view l g
    → events_due policy stage l f ≡ events_due policy stage l g
same_events policy stage level.None f g e = refl
same_events policy stage level.Metadata f g e =
    both event_unless
    (same_omitted policy stage f g (ap (λ v. v.user) e) (ap (λ v. v.info) e))
    (same_event stage level.Metadata f g e)
same_events policy stage level.Request f g e =
    both event_unless
    (same_omitted policy stage f g (ap (λ v. v.user) e) (ap (λ v. v.info) e))
    (same_event stage level.Request f g e)
same_events policy stage level.RequestResponse f g e =
    both event_unless
    (same_omitted policy stage f g (ap (λ v. v.user) e) (ap (λ v. v.info) e))
    (same_event stage level.RequestResponse f g e)

pub same_due : (setup : Setup) (stage : Stage) (l : Level) (f g : Facts) → view l f ≡ view l g
    → due setup stage l f ≡ due setup stage l g
unfolding due
same_due setup stage l f g e = ap (offers_due setup.set) (same_events setup.set.policy stage l f g e)

-- ---- hiding twice

closed_twice : (x : Exchange) → low_closed (low_closed x) ≡ low_closed x
closed_twice x = ap (λ f. record (low_closed x) { facts = f }) (view_twice x.level x.facts)

pub all_closed_twice : (xs : List Exchange) → map low_closed (map low_closed xs) ≡ map low_closed xs
all_closed_twice [] = refl
all_closed_twice (x ∷ xs) = both (λ y ys. y ∷ ys) (closed_twice x) (all_closed_twice xs)

pub errand_twice : (l : Level) (e : Errand) → low_errand l (low_errand l e) ≡ low_errand l e
errand_twice level.None e = refl
errand_twice level.Metadata e = refl
errand_twice level.Request e = refl
errand_twice level.RequestResponse e = refl

pub head_twice : (l : Level) (f : Facts) (h : Bool) → low_head l (view l f).info (low_head l f.info h) ≡ low_head l f.info h
head_twice level.None f h = refl
head_twice level.Metadata f h = refl
head_twice level.Request f h = refl
head_twice level.RequestResponse f h = and_twice f.info.resource_request h

pub managed_twice : (l : Level) (m : Bool) → low_managed l (low_managed l m) ≡ low_managed l m
managed_twice level.None m = refl
managed_twice level.Metadata m = refl
managed_twice level.Request m = refl
managed_twice level.RequestResponse m = refl

pub exchange_twice : (x : Exchange) → low_exchange (low_exchange x) ≡ low_exchange x
exchange_twice x =
    both
    (λ (f : Facts) (h : Bool). record (low_exchange x) { facts = f; is_head = h; errand = low_errand x.level (low_errand x.level x.errand); managed = low_managed x.level (low_managed x.level x.managed) })
    (view_twice x.level x.facts)
    (head_twice x.level x.facts x.is_head)
    ∙ both
    (λ (e : Errand) (m : Bool). record (low_exchange x) { errand = e; managed = m })
    (errand_twice x.level x.errand)
    (managed_twice x.level x.managed)

open_twice : (o : Open) → low_open (low_open o) ≡ low_open o
open_twice o = ap (λ x. record (low_open o) { exchange = x }) (exchange_twice o.exchange)

current_twice : (o : Option Open) → option_map low_open (option_map low_open o) ≡ option_map low_open o
current_twice None = refl
current_twice (Some o) = ap Some (open_twice o)

bay_twice : (b : Bay) → low_bay (low_bay b) ≡ low_bay b
bay_twice b =
    both
    (λ (xs : List Exchange) (o : Option Open). record (low_bay b) { closed = xs; current = o })
    (all_closed_twice b.closed)
    (current_twice b.current)

pub bays_twice : (bs : List Bay) → map low_bay (map low_bay bs) ≡ map low_bay bs
bays_twice [] = refl
bays_twice (b ∷ bs) = both (λ y ys. y ∷ ys) (bay_twice b) (bays_twice bs)

pub low_twice : (s : State) → low (low s) ≡ low s
unfolding low
low_twice s = ap (λ bs. record (low s) { bays = bs }) (bays_twice s.bays)

-- what an exchange that is over hides is hidden of one that isn't
closed_open : (x : Exchange) → low_closed (low_exchange x) ≡ low_closed x
closed_open x = ap (λ f. record (low_closed x) { facts = f }) (view_twice x.level x.facts)

-- ---- a bay with another exchange

pub current_low : (b : Bay) (n seen : ℕ) (o o' : Open) → low_open o ≡ low_open o'
    → low_bay (record b { number = n; seen = seen; current = Some o })
    ≡ low_bay (record (low_bay b) { number = n; seen = seen; current = Some o' })
current_low b n seen o o' e =
    both
    (λ (xs : List Exchange) (p : Open). record (low_bay b) { number = n; seen = seen; closed = xs; current = Some p })
    (sym (all_closed_twice b.closed))
    e

map_push : (xs : List Exchange) (x : Exchange) → map low_closed (xs ++ x ∷ []) ≡ map low_closed xs ++ low_closed x ∷ []
map_push [] x = refl
map_push (y ∷ xs) x = ap (λ ys. low_closed y ∷ ys) (map_push xs x)

settled_closed : (b : Bay) (o o' : Open) → low_open o ≡ low_open o'
    → map low_closed (b.closed ++ o.exchange ∷ []) ≡ map low_closed (map low_closed b.closed ++ o'.exchange ∷ [])
settled_closed b o o' e =
    map_push b.closed o.exchange
    ∙ both
    (λ (xs : List Exchange) (x : Exchange). xs ++ x ∷ [])
    (sym (all_closed_twice b.closed))
    (sym (closed_open o.exchange) ∙ ap (λ v. low_closed v.exchange) e ∙ closed_open o'.exchange)
    ∙ sym (map_push (map low_closed b.closed) o'.exchange)

settled_if : (b : Bay) (c : Bool) (o o' : Open) → low_open o ≡ low_open o'
    → low_bay (if c then record b { closed = b.closed ++ o.exchange ∷ []; current = None } else record b { current = Some o })
    ≡ low_bay (if c then record (low_bay b) { closed = map low_closed b.closed ++ o'.exchange ∷ []; current = None } else record (low_bay b) { current = Some o' })
settled_if b true o o' e = ap (λ xs. record (low_bay b) { closed = xs; current = None }) (settled_closed b o o' e)
settled_if b false o o' e = current_low b b.number b.seen o o' e

pub settled_low : (b : Bay) (o o' : Open) → low_open o ≡ low_open o' → low_bay (settled b o) ≡ low_bay (settled (low_bay b) o')
settled_low b o o' e =
    settled_if b (o.phase.finished && no_wait o.waiting) o o' e
    ∙ ap
    (λ c. low_bay (if c then record (low_bay b) { closed = map low_closed b.closed ++ o'.exchange ∷ []; current = None } else record (low_bay b) { current = Some o' }))
    (ap (λ v. v.phase.finished && no_wait v.waiting) e)
