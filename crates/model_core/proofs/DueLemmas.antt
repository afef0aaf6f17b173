-- What the sinks are due at a stage stays so while later stages become known.
use Rattle.std.proofs.Common.{◌≡◌, ◌≢◌, ℕ, Bool, true, false, not, List, [], ◌∷◌, ◌++◌, filter, map, refl, ap, sym, ◌∙◌, subst, append_assoc}
use Rattle.std.proofs.lemmas.Grind.{flat_map-append}
use Rattle.std.proofs.lemmas.List.{append-nil, map-append}
use Rattle.std.specs.Prelude.{if◌then◌else◌}
use Rattle.audit_core.specs.Offers.{Due, offers_due, due_at, sinks_on, when_on, mode_of, is_on, is_first}
use Rattle.audit_core.specs.Owed.{omits, owed_at}
use Rattle.audit_core.specs.declared.settings.Settings.{Settings}
use Rattle.audit_core.specs.declared.sinks.Sink.{Sink}
use Rattle.audit_core.specs.declared.sinks.Sink.TheVariants.{Log, Webhook}
use Rattle.model_core.proofs.Logic.{both}
use Rattle.model_core.specs.Exchanges.{HasLevel, AreLater}
use Rattle.model_core.specs.Offered.{dues_of, dues_at}
use Rattle.front_base.specs.Info.{is_long_running}
use Rattle.front_base.specs.declared.level.Level.{Level}
use Rattle.front_base.specs.declared.level.Level.TheVariants as level
use Rattle.front_base.specs.declared.stage.Stage.{Stage}
use Rattle.front_base.specs.declared.stage.Stage.TheVariants.{RequestReceived, ResponseStarted, ResponseComplete}
use Rattle.policy_rules.specs.Policy.{first}
use Rattle.policy_rules.specs.declared.omit.Omit.{Omit}
use Rattle.stage_event.specs.Events.{event}
use Rattle.stage_event.specs.declared.event.Event.{Event}
use Rattle.stage_event.specs.declared.facts.Facts.{Facts}
use Rattle.stage_event.specs.declared.facts.Kept.{Kept}
use Rattle.model_worlds.specs.Setup.{Setup}
use Rattle.model_worlds.specs.Steps.{due, event_unless}
use Rattle.model_worlds.specs.declared.state.Exchange.{Exchange}

-- ---- events that stay

-- the facts with another status and reply, and other later moments
abbrev pub with_reply : Facts → ℕ → Kept → ℕ → ℕ → Facts
with_reply f status reply started complete =
    record f { status = status; reply = reply; started = started; complete = complete }

-- the event of the arrival shows none of these
pub received_stays : (l : Level) (f : Facts) (status : ℕ) (reply : Kept) (started complete : ℕ)
    → event RequestReceived l f ≡ event RequestReceived l (with_reply f status reply started complete)
unfolding event
received_stays level.None f status reply started complete = refl
received_stays level.Metadata f status reply started complete = refl
received_stays level.Request f status reply started complete = refl
received_stays level.RequestResponse f status reply started complete = refl

-- that of the start shows no reply and not when it was complete
started_stays_at : (l : Level) (f : Facts) (reply : Kept) (complete : ℕ)
    → event ResponseStarted l f ≡ event ResponseStarted l (with_reply f f.status reply f.started complete)
unfolding event
started_stays_at level.None f reply complete = refl
started_stays_at level.Metadata f reply complete = refl
started_stays_at level.Request f reply complete = refl
started_stays_at level.RequestResponse f reply complete = refl

pub started_stays : (l : Level) (f : Facts) (status : ℕ) (reply : Kept) (complete : ℕ) → f.status ≡ status
    → event ResponseStarted l f ≡ event ResponseStarted l (with_reply f status reply f.started complete)
started_stays l f status reply complete e =
    started_stays_at l f reply complete
    ∙ ap (λ n. event ResponseStarted l (with_reply f n reply f.started complete)) e

-- ---- what is due stays

-- at level None nothing is due
pub due_stays : (setup : Setup) (stage : Stage) (l : Level) (f : Facts) (status : ℕ) (reply : Kept) (started complete : ℕ)
    → (l ≢ level.None → event stage l f ≡ event stage l (with_reply f status reply started complete))
    → due setup stage l f ≡ due setup stage l (with_reply f status reply started complete)
unfolding due
due_stays setup stage level.None f status reply started complete h = refl
due_stays setup stage level.Metadata f status reply started complete h =
    ap
    (λ e. offers_due setup.set (event_unless (omits (first setup.set.policy f.user f.info).omit stage) e))
    (h (λ e. cc))
due_stays setup stage level.Request f status reply started complete h =
    ap
    (λ e. offers_due setup.set (event_unless (omits (first setup.set.policy f.user f.info).omit stage) e))
    (h (λ e. cc))
due_stays setup stage level.RequestResponse f status reply started complete h =
    ap
    (λ e. offers_due setup.set (event_unless (omits (first setup.set.policy f.user f.info).omit stage) e))
    (h (λ e. cc))

-- ---- one stage more

abbrev pub three : List Due → Bool → List Due → Bool → List Due → List Due
three a s b f c = a ++ ((if s then b else []) ++ (if f then c else []))

pub three_started : (a b c a' b' c' : List Due) (s f : Bool) → s ≡ false → f ≡ false → a ≡ a'
    → three a s b f c ++ b' ≡ three a' true b' f c'
three_started a b c a' b' c' s f p q e =
    both (λ (u : Bool) (v : Bool). three a u b v c ++ b') p q
    ∙ ap (λ v. v ++ b') (append-nil a)
    ∙ both (λ (x : List Due) (y : List Due). x ++ y) e (sym (append-nil b'))
    ∙ ap (λ v. a' ++ (b' ++ (if v then c' else []))) (sym q)

pub three_finished : (a b c a' b' c' : List Due) (s f : Bool) → f ≡ false → a ≡ a' → (s ≡ true → b ≡ b')
    → three a s b f c ++ c' ≡ three a' s b' true c'
three_finished a b c a' b' c' true f q e k =
    ap (λ v. (a ++ (b ++ (if v then c else []))) ++ c') q
    ∙ ap (λ v. (a ++ v) ++ c') (append-nil b)
    ∙ append_assoc a b c'
    ∙ both (λ (x : List Due) (y : List Due). x ++ (y ++ c')) e (k refl)
three_finished a b c a' b' c' false f q e k =
    ap (λ v. (a ++ (if v then c else [])) ++ c') q
    ∙ ap (λ v. v ++ c') (append-nil a)
    ∙ ap (λ x. x ++ c') e

-- ---- all that an exchange owes

-- the events of stages of which each may be omitted
two_stages : (at : Stage → Event) (a b : Bool) (s t : Stage)
    → map at (if not a then s ∷ (if not b then t ∷ [] else []) else (if not b then t ∷ [] else []))
    ≡ event_unless a (at s) ++ event_unless b (at t)
two_stages at true true s t = refl
two_stages at true false s t = refl
two_stages at false true s t = refl
two_stages at false false s t = refl

three_stages : (at : Stage → Event) (a b c : Bool) (r s t : Stage)
    → map at (if not a
    then r ∷ (if not b then s ∷ (if not c then t ∷ [] else []) else (if not c then t ∷ [] else []))
    else (if not b then s ∷ (if not c then t ∷ [] else []) else (if not c then t ∷ [] else [])))
    ≡ event_unless a (at r) ++ (event_unless b (at s) ++ event_unless c (at t))
three_stages at true true true r s t = refl
three_stages at true true false r s t = refl
three_stages at true false true r s t = refl
three_stages at true false false r s t = refl
three_stages at false true true r s t = refl
three_stages at false true false r s t = refl
three_stages at false false true r s t = refl
three_stages at false false false r s t = refl

abbrev pub stages_by : Bool → List Stage
stages_by long =
    if long then RequestReceived ∷ ResponseStarted ∷ ResponseComplete ∷ [] else RequestReceived ∷ ResponseComplete ∷ []

at_stages : (at : Stage → Event) (omit : Omit) (long : Bool)
    → map at (filter (λ stage. not (omits omit stage)) (stages_by long))
    ≡ event_unless omit.received (at RequestReceived)
    ++ ((if long then event_unless omit.started (at ResponseStarted) else [])
    ++ event_unless omit.complete (at ResponseComplete))
at_stages at omit true =
    three_stages at omit.received omit.started omit.complete RequestReceived ResponseStarted ResponseComplete
at_stages at omit false = two_stages at omit.received omit.complete RequestReceived ResponseComplete

due-append : (set : Settings) (these those : List Event)
    → offers_due set (these ++ those) ≡ offers_due set these ++ offers_due set those
due-append set these those = flat_map-append (λ own. map (due_at set own) (sinks_on set)) these those

due_if : (set : Settings) (b : Bool) (events : List Event)
    → offers_due set (if b then events else []) ≡ (if b then offers_due set events else [])
due_if set true events = refl
due_if set false events = refl

events_dues : (set : Settings) (at : Stage → Event) (omit : Omit) (long : Bool)
    → offers_due set (map at (filter (λ stage. not (omits omit stage)) (stages_by long)))
    ≡ three (offers_due set (event_unless omit.received (at RequestReceived))) long
    (offers_due set (event_unless omit.started (at ResponseStarted))) true
    (offers_due set (event_unless omit.complete (at ResponseComplete)))
events_dues set at omit long =
    ap (offers_due set) (at_stages at omit long)
    ∙ due-append set (event_unless omit.received (at RequestReceived))
    ((if long then event_unless omit.started (at ResponseStarted) else [])
    ++ event_unless omit.complete (at ResponseComplete))
    ∙ ap (λ v. offers_due set (event_unless omit.received (at RequestReceived)) ++ v)
    (due-append set (if long then event_unless omit.started (at ResponseStarted) else [])
    (event_unless omit.complete (at ResponseComplete))
    ∙ ap (λ v. v ++ offers_due set (event_unless omit.complete (at ResponseComplete)))
    (due_if set long (event_unless omit.started (at ResponseStarted))))

nothing_due : (long : Bool) → ◌≡◌ {A = List Due} [] (three [] long [] true [])
nothing_due true = refl
nothing_due false = refl

owed_dues : (setup : Setup) (l : Level) (f : Facts)
    → offers_due setup.set (owed_at l (first setup.set.policy f.user f.info).omit f)
    ≡ dues_at setup l f (is_long_running f.info) true
unfolding due
owed_dues setup level.None f = nothing_due (is_long_running f.info)
owed_dues setup level.Metadata f =
    events_dues setup.set (λ stage. event stage level.Metadata f) (first setup.set.policy f.user f.info).omit
    (is_long_running f.info)
owed_dues setup level.Request f =
    events_dues setup.set (λ stage. event stage level.Request f) (first setup.set.policy f.user f.info).omit
    (is_long_running f.info)
owed_dues setup level.RequestResponse f =
    events_dues setup.set (λ stage. event stage level.RequestResponse f) (first setup.set.policy f.user f.info).omit
    (is_long_running f.info)

pub dues_are : (setup : Setup) (x : Exchange) → HasLevel setup x
    → dues_at setup x.level x.facts (is_long_running x.facts.info) true ≡ dues_of setup x
dues_are setup x h =
    sym (owed_dues setup x.level x.facts)
    ∙ ap
    (λ l. offers_due setup.set (owed_at l (first setup.set.policy x.facts.user x.facts.info).omit x.facts))
    h

-- ---- sinks that are on

-- all that is due is for sinks that are on
pub AllOn : Settings → List Due → Type 0
AllOn set [] = Unit {0}
AllOn set (w ∷ ws) = (is_on (mode_of set w.sink) ≡ true) × AllOn set ws

on-append : (set : Settings) (vs ws : List Due) → AllOn set vs → AllOn set ws → AllOn set (vs ++ ws)
unfolding AllOn
on-append set [] ws h k = k
on-append set (v ∷ vs) ws h k = (h.0, on-append set vs ws h.1 k)

pub on_at : (set : Settings) (vs : List Due) (w : Due) (ws : List Due) → AllOn set (vs ++ w ∷ ws)
    → is_on (mode_of set w.sink) ≡ true
unfolding AllOn
on_at set [] w ws h = h.0
on_at set (v ∷ vs) w ws h = on_at set vs w ws h.1

on_sink : (set : Settings) (own : Event) (sink : Sink) (c : Bool) → is_on (mode_of set sink) ≡ c
    → AllOn set (map (due_at set own) (if c then sink ∷ [] else []))
unfolding AllOn
on_sink set own sink true e = (e, tt)
on_sink set own sink false e = tt

on_event : (set : Settings) (own : Event) → AllOn set (map (due_at set own) (sinks_on set))
unfolding AllOn
on_event set own =
    subst (AllOn set)
    (sym (map-append (due_at set own) (when_on set Log) (when_on set Webhook)))
    (on-append set (map (due_at set own) (when_on set Log)) (map (due_at set own) (when_on set Webhook))
    (on_sink set own Log (is_on set.log) refl) (on_sink set own Webhook (is_on set.hook) refl))

on_events : (set : Settings) (events : List Event) → AllOn set (offers_due set events)
unfolding AllOn
on_events set [] = tt
on_events set (own ∷ events) =
    on-append set (map (due_at set own) (sinks_on set)) (offers_due set events) (on_event set own) (on_events set events)

on_due : (setup : Setup) (stage : Stage) (l : Level) (f : Facts) → AllOn setup.set (due setup stage l f)
unfolding due
on_due setup stage l f = on_events setup.set _

on_if : (set : Settings) (c : Bool) (ws : List Due) → AllOn set ws → AllOn set (if c then ws else [])
unfolding AllOn
on_if set true ws h = h
on_if set false ws h = tt

pub on_so_far : (setup : Setup) (l : Level) (f : Facts) (s c : Bool) → AllOn setup.set (dues_at setup l f s c)
on_so_far setup l f s c =
    on-append setup.set (due setup RequestReceived l f) _ (on_due setup RequestReceived l f)
    (on-append setup.set (if s then due setup ResponseStarted l f else []) _
    (on_if setup.set s _ (on_due setup ResponseStarted l f)) (on_if setup.set c _ (on_due setup ResponseComplete l f)))

-- ---- later stages

later_at : (set : Settings) (own : Event) (sinks : List Sink) → is_first own.stage ≡ false
    → AreLater (map (due_at set own) sinks)
later_at set own [] h = tt
later_at set own (sink ∷ sinks) h = (h, later_at set own sinks h)

later_unless : (set : Settings) (c : Bool) (own : Event) → is_first own.stage ≡ false
    → AreLater (offers_due set (event_unless c own))
later_unless set true own h = tt
later_unless set false own h =
    subst AreLater (sym (append-nil (map (due_at set own) (sinks_on set)))) (later_at set own (sinks_on set) h)

stage_is : (stage : Stage) (l : Level) (f : Facts) → (event stage l f).stage ≡ stage
unfolding event
stage_is stage l f = refl

-- what is due of a later stage is not due of the arrival
pub later_due : (setup : Setup) (stage : Stage) (l : Level) (f : Facts) → is_first stage ≡ false
    → AreLater (due setup stage l f)
unfolding due
later_due setup stage level.None f e = tt
later_due setup stage level.Metadata f e =
    later_unless setup.set _ (event stage level.Metadata f) (ap is_first (stage_is stage level.Metadata f) ∙ e)
later_due setup stage level.Request f e =
    later_unless setup.set _ (event stage level.Request f) (ap is_first (stage_is stage level.Request f) ∙ e)
later_due setup stage level.RequestResponse f e =
    later_unless setup.set _ (event stage level.RequestResponse f) (ap is_first (stage_is stage level.RequestResponse f) ∙ e)

-- at level None nothing is due of the start
pub none_started : (setup : Setup) (f : Facts) → due setup ResponseStarted level.None f ≡ []
unfolding due
none_started setup f = refl
