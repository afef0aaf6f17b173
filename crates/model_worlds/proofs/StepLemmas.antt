-- What a step shows is what the step without what levels hide shows, on the state without it: each kind of step.
use Rattle.std.proofs.Common.{◌≡◌, ℕ, ◌+◌, Bool, true, false, not, ◌&&◌, List, [], ◌∷◌, map, length, Option, Some, None, refl, ap, sym, ◌∙◌}
use Rattle.std.specs.Prelude.{if◌then◌else◌, option_map, slice_get, slice_set, nat_lt}
use Rattle.std.proofs.lemmas.List.{map-set}
use Rattle.std.proofs.lemmas.Option.{slice_get-map}
use Rattle.apiservice_table.specs.declared.change.Change.{Change}
use Rattle.apiservice_table.specs.declared.change.ChangeFault.{ChangeFault}
use Rattle.audit_core.specs.Answer.{status_of, link_status}
use Rattle.audit_core.specs.Offers.{Due}
use Rattle.audit_core.specs.declared.errand.Errand.{Errand}
use Rattle.audit_core.specs.declared.link_note.LinkNote.{LinkNote}
use Rattle.audit_core.specs.declared.link_note.LinkNote.TheVariants.{NotUsed, Whole}
use Rattle.audit_core.specs.declared.offers.Outcome.{Outcome}
use Rattle.audit_core.specs.declared.routed.Handling.{Handling}
use Rattle.audit_core.specs.declared.routed.Handling.TheVariants.{Refused, Served, Proxied}
use Rattle.audit_core.specs.declared.sinks.Sink.{Sink}
use Rattle.front_base.specs.Info.{is_long_running}
use Rattle.front_base.specs.declared.audit_id.TheConstants.{MOST_REQUESTS}
use Rattle.front_base.specs.declared.level.Level.{Level}
use Rattle.front_base.specs.declared.level.Level.TheVariants as level
use Rattle.front_base.specs.declared.stage.Stage.TheVariants.{RequestReceived, ResponseStarted, ResponseComplete}
use Rattle.stage_event.specs.Due.{reply_due}
use Rattle.stage_event.specs.Views.{view, recorded, shown_if}
use Rattle.stage_event.specs.declared.facts.Facts.{Facts}
use Rattle.stage_event.specs.declared.facts.Kept.{Kept}
use Rattle.stage_event.specs.declared.facts.Kept.TheVariants.{NotAsked}
use Rattle.model_worlds.proofs.HidingLemmas.{both, and_twice, shown_twice, shown_if_twice, moment_twice, same_due, errand_twice, head_twice, managed_twice, exchange_twice, low_twice, bays_twice, current_low, settled_low}
use Rattle.model_worlds.specs.Requests.{Wish, kept_if}
use Rattle.model_worlds.specs.Setup.{Setup}
use Rattle.model_worlds.specs.Steps
use Rattle.model_worlds.specs.Worlds
use Rattle.model_worlds.specs.declared.state.Bay.{Bay}
use Rattle.model_worlds.specs.declared.state.Exchange.{Exchange}
use Rattle.model_worlds.specs.declared.state.Open.{Open}
use Rattle.model_worlds.specs.declared.state.Phase.{Phase}
use Rattle.model_worlds.specs.declared.state.Shared.{Shared}
use Rattle.model_worlds.specs.declared.state.SinkState.{SinkState}
use Rattle.model_worlds.specs.declared.state.State.{State}
use Rattle.model_worlds.specs.declared.step.StepAnswer.{StepAnswer}
use Rattle.model_worlds.specs.declared.step.StepAnswer.TheVariants.{Begun, Found, Offered, Noted, Changed, Took, Wrote, Lost, Idle}
use Rattle.model_worlds.specs.declared.step.TryTold.{TryTold}

-- ---- turns

low_turn : Option Open → Steps.Turn → Steps.Turn
low_turn o t = record { shared = t.shared; bay = Worlds.low_bay t.bay; answer = Worlds.low_answer o t.answer }

-- what a turn leaves, from what it shows
low_turned : State → ℕ → Option Steps.Turn → Steps.Stepped
low_turned s bay None = record { state = s; answer = Idle }
low_turned s bay (Some t) =
    record { state = record { shared = t.shared; bays = slice_set s.bays bay t.bay }; answer = t.answer }

unfoldable pub low_stepped : Option Open → Steps.Stepped → Steps.Stepped
low_stepped o d = record { state = Worlds.low d.state; answer = Worlds.low_answer o d.answer }

-- two turns that show the same
Same : Option Open → Option Open → Option Steps.Turn → Option Steps.Turn → Type 0
Same o p t u = option_map (low_turn o) t ≡ option_map (low_turn p) u

shows : (s : State) (bay : ℕ) (o : Option Open) (t : Option Steps.Turn)
    → low_stepped o (Steps.turned s bay t) ≡ low_turned (Worlds.low s) bay (option_map (low_turn o) t)
unfolding low_turn low_turned low_stepped Worlds.low
shows s bay o None = refl
shows s bay o (Some t) =
    ap
    (λ bs. record { state = record { shared = t.shared; bays = bs }; answer = Worlds.low_answer o t.answer })
    (map-set Worlds.low_bay s.bays bay t.bay)

same_turned : (s : State) (bay : ℕ) (o p : Option Open) (t u : Option Steps.Turn) → Same o p t u
    → low_stepped o (Steps.turned s bay t) ≡ low_stepped p (Steps.turned (Worlds.low s) bay u)
unfolding Same
same_turned s bay o p t u e =
    shows s bay o t
    ∙ ap (low_turned (Worlds.low s) bay) e
    ∙ sym (ap (λ v. low_turned v bay (option_map (low_turn p) u)) (low_twice s))
    ∙ sym (shows (Worlds.low s) bay p u)

-- what a bay's step shows is what it shows on the bay without what levels hide
pub AtBay : (Shared → Bay → Option Steps.Turn) → (Option Open → Shared → Bay → Option Steps.Turn) → Type 0
AtBay f g =
    (sh : Shared) (b : Bay)
    → Same b.current (option_map Worlds.low_open b.current) (f sh b) (g b.current sh (Worlds.low_bay b))

same_tried : (f : Shared → Bay → Option Steps.Turn) (g : Option Open → Shared → Bay → Option Steps.Turn) → AtBay f g
    → (sh : Shared) (b : Option Bay)
    → Same (Worlds.current_of b) (Worlds.current_of (option_map Worlds.low_bay b)) (Steps.try_at f sh b)
    (Steps.try_at (g (Worlds.current_of b)) sh (option_map Worlds.low_bay b))
unfolding Same AtBay
same_tried f g e sh None = refl
same_tried f g e sh (Some b) = e sh b

pub same_at_bay : (f : Shared → Bay → Option Steps.Turn) (g : Option Open → Shared → Bay → Option Steps.Turn) → AtBay f g
    → (s : State) (bay : ℕ)
    → low_stepped (Worlds.current_at s bay) (Steps.at_bay s bay f)
    ≡ low_stepped (Worlds.current_at (Worlds.low s) bay) (Steps.at_bay (Worlds.low s) bay (g (Worlds.current_at s bay)))
unfolding Worlds.low
same_at_bay f g e s bay =
    let at : slice_get (map Worlds.low_bay s.bays) bay ≡ option_map Worlds.low_bay (slice_get s.bays bay) =
    slice_get-map Worlds.low_bay s.bays bay in
    same_turned s bay _ _ _ _ (same_tried f g e s.shared (slice_get s.bays bay))
    ∙ ap
    (λ b. low_stepped (Worlds.current_of b) (Steps.turned (Worlds.low s) bay (Steps.try_at (g (Worlds.current_at s bay)) s.shared b)))
    (sym at)

-- a turn under one condition
same_if_at : (c : Bool) (o p : Option Open) (t u : Steps.Turn) → low_turn o t ≡ low_turn p u
    → option_map (low_turn o) (if c then Some t else None) ≡ option_map (low_turn p) (if c then Some u else None)
same_if_at true o p t u h = ap Some h
same_if_at false o p t u h = refl

same_if : (c d : Bool) (o p : Option Open) (t u : Steps.Turn) → c ≡ d → low_turn o t ≡ low_turn p u
    → Same o p (if c then Some t else None) (if d then Some u else None)
unfolding Same
same_if c d o p t u e h =
    ap (λ b. option_map (low_turn o) (if b then Some t else None)) e ∙ same_if_at d o p t u h

same_turn : (o p : Option Open) (sh : Shared) (b c : Bay) (a a' : StepAnswer) → Worlds.low_bay b ≡ Worlds.low_bay c
    → Worlds.low_answer o a ≡ Worlds.low_answer p a'
    → low_turn o (record { shared = sh; bay = b; answer = a }) ≡ low_turn p (record { shared = sh; bay = c; answer = a' })
unfolding low_turn
same_turn o p sh b c a a' e h = both (λ (v : Bay) (w : StepAnswer). record { shared = sh; bay = v; answer = w }) e h

-- the exchange at a level
at_level : Level → Open → Open
at_level l o = record o { exchange = record o.exchange { level = l } }

-- an exchange with other facts, and what goes with them
refacted : Open → Facts → LinkNote → Phase → List Due → Open
refacted o f link ph ws = record { exchange = record o.exchange { facts = f; link = link }; phase = ph; waiting = ws }

same_heads : (l : Level) (h : Bool) (f g k : Facts) → f.info ≡ k.info → g.info ≡ (view l k).info
    → Worlds.low_head l f.info h ≡ Worlds.low_head l g.info (Worlds.low_head l k.info h)
same_heads l h f g k p q =
    ap (λ i. Worlds.low_head l i h) p
    ∙ sym (head_twice l k h)
    ∙ ap (λ i. Worlds.low_head l i (Worlds.low_head l k.info h)) (sym q)

same_refacted : (o : Open) (f g : Facts) (link link' : LinkNote) (ph : Phase) (ws vs : List Due)
    → f.info ≡ o.exchange.facts.info → g.info ≡ (view o.exchange.level o.exchange.facts).info
    → view o.exchange.level f ≡ view o.exchange.level g → ws ≡ vs
    → Worlds.low_open (refacted o f link ph ws) ≡ Worlds.low_open (refacted (Worlds.low_open o) g link' ph vs)
unfolding refacted
same_refacted o f g link link' ph ws vs p q e d =
    both
    (λ (v : Facts) (w : List Due). record { exchange = record (Worlds.low_exchange o.exchange) { facts = v; is_head = Worlds.low_head o.exchange.level f.info o.exchange.is_head }; phase = ph; waiting = w })
    e
    d
    ∙ both
    (λ (h : Bool) (u : Errand). record { exchange = record (Worlds.low_exchange o.exchange) { facts = view o.exchange.level g; is_head = h; errand = u }; phase = ph; waiting = vs })
    (same_heads o.exchange.level o.exchange.is_head f g o.exchange.facts p q)
    (sym (errand_twice o.exchange.level o.exchange.errand))
    ∙ ap
    (λ n. record { exchange = record (Worlds.low_exchange (refacted (Worlds.low_open o) g link' ph vs).exchange) { managed = n }; phase = ph; waiting = vs })
    (sym (managed_twice o.exchange.level o.exchange.managed))

-- ---- Begin

with_level : Level → Wish → Wish
with_level l w = record w { level = l }

same_begun_facts : (setup : Setup) (bay n m : ℕ) (l : Level) (w : Wish)
    → view l (Steps.facts_begun setup bay n w m) ≡ view l (Steps.facts_begun setup bay n (Worlds.low_wish l w) m)
same_begun_facts setup bay n m level.None w = refl
same_begun_facts setup bay n m level.Metadata w = refl
same_begun_facts setup bay n m level.Request w =
    ap
    (λ k. record (recorded false false (Steps.facts_begun setup bay n w m)) { request = k })
    (sym (shown_if_twice w.info.resource_request w.body))
same_begun_facts setup bay n m level.RequestResponse w =
    ap
    (λ k. record (recorded false (reply_due level.RequestResponse w.info) (Steps.facts_begun setup bay n w m)) { request = k })
    (sym (shown_if_twice w.info.resource_request w.body))

same_begun_errand : (l : Level) (w : Wish) → Worlds.low_errand l w.errand ≡ Worlds.low_errand l (Worlds.low_wish l w).errand
same_begun_errand level.None w = refl
same_begun_errand level.Metadata w = refl
same_begun_errand level.Request w = refl
same_begun_errand level.RequestResponse w = refl

same_begun_head : (l : Level) (w : Wish)
    → Worlds.low_head l w.info w.is_head ≡ Worlds.low_head l (Worlds.low_wish l w).info (Worlds.low_wish l w).is_head
same_begun_head level.None w = refl
same_begun_head level.Metadata w = refl
same_begun_head level.Request w = refl
same_begun_head level.RequestResponse w = sym (and_twice w.info.resource_request w.is_head)

same_begun_asked : (l : Level) (w : Wish) → (Worlds.low_wish l w).asked ≡ w.asked
same_begun_asked level.None w = refl
same_begun_asked level.Metadata w = refl
same_begun_asked level.Request w = refl
same_begun_asked level.RequestResponse w = refl

same_begun_level : (l : Level) (w : Wish) → (Worlds.low_wish l w).level ≡ w.level
same_begun_level level.None w = refl
same_begun_level level.Metadata w = refl
same_begun_level level.Request w = refl
same_begun_level level.RequestResponse w = refl

same_begun_managed : (l : Level) (w : Wish)
    → Worlds.low_managed l w.managed ≡ Worlds.low_managed l (Worlds.low_wish l w).managed
same_begun_managed level.None w = refl
same_begun_managed level.Metadata w = refl
same_begun_managed level.Request w = refl
same_begun_managed level.RequestResponse w = refl

-- what an exchange that has begun shows, by its parts
shown_begun : Level → Facts → Errand → Option Change → Bool → Bool → ℕ → List Due → Open
shown_begun l f e a h n m ws =
    record {
      exchange = record { level = l; facts = f; errand = e; asked = a; is_head = h; managed = n; seen = 0; link = NotUsed; notes = [] };
      phase = Steps.phase_begun m;
      waiting = ws;
    }

due_begun : Setup → ℕ → ℕ → ℕ → Level → Wish → List Due
due_begun setup bay n m l w = Steps.due setup RequestReceived l (Steps.facts_begun setup bay n (Worlds.low_wish l w) m)

same_begun : (setup : Setup) (bay n m : ℕ) (l : Level) (w : Wish)
    → Worlds.low_open (Steps.begun setup bay n (with_level l w) m)
    ≡ Worlds.low_open (Steps.begun setup bay n (record (Worlds.low_wish l w) { level = l }) m)
unfolding with_level shown_begun due_begun
same_begun setup bay n m l w =
    let e = same_begun_facts setup bay n m l w in
    both
    (λ (f : Facts) (ws : List Due). shown_begun l f (Worlds.low_errand l w.errand) w.asked (Worlds.low_head l w.info w.is_head) (Worlds.low_managed l w.managed) m ws)
    e
    (same_due setup RequestReceived l _ _ e)
    ∙ both
    (λ (u : Errand) (h : Bool). shown_begun l (view l (Steps.facts_begun setup bay n (Worlds.low_wish l w) m)) u w.asked h (Worlds.low_managed l w.managed) m (due_begun setup bay n m l w))
    (same_begun_errand l w)
    (same_begun_head l w)
    ∙ both
    (λ (a : Option Change) (k : Bool). shown_begun l (view l (Steps.facts_begun setup bay n (Worlds.low_wish l w) m)) (Worlds.low_errand l (Worlds.low_wish l w).errand) a (Worlds.low_head l (Worlds.low_wish l w).info (Worlds.low_wish l w).is_head) k m (due_begun setup bay n m l w))
    (sym (same_begun_asked l w))
    (same_begun_managed l w)

same_begun_wish : (setup : Setup) (bay n m : ℕ) (w : Wish)
    → Worlds.low_open (Steps.begun setup bay n w m)
    ≡ Worlds.low_open (Steps.begun setup bay n (Worlds.low_wish w.level w) m)
unfolding with_level
same_begun_wish setup bay n m w =
    same_begun setup bay n m w.level w
    ∙ ap
    (λ l. Worlds.low_open (Steps.begun setup bay n (record (Worlds.low_wish w.level w) { level = l }) m))
    (sym (same_begun_level w.level w))

begin_at : (setup : Setup) (bay m : ℕ) (w : Wish) (sh : Shared) (b : Bay) (o : Option Open)
    → Same o (option_map Worlds.low_open o)
    (Steps.begin setup bay w m sh (record b { current = o }))
    (Steps.begin setup bay (Worlds.low_wish w.level w) m sh (Worlds.low_bay (record b { current = o })))
unfolding Same
begin_at setup bay m w sh b None =
    same_if_at (nat_lt b.number MOST_REQUESTS) None None _ _
    (same_turn None None sh _ _ Begun Begun
    (current_low b (b.number + 1) b.seen
    (Steps.begun setup bay b.number w m)
    (Steps.begun setup bay b.number (Worlds.low_wish w.level w) m)
    (same_begun_wish setup bay b.number m w))
    refl)
begin_at setup bay m w sh b (Some o) = refl

pub begin_low : (setup : Setup) (bay m : ℕ) (w : Wish)
    → AtBay (Steps.begin setup bay w m) (λ o. Steps.begin setup bay (Worlds.low_wish w.level w) m)
unfolding AtBay
begin_low setup bay m w sh b = begin_at setup bay m w sh b b.current

-- ---- a step in an exchange

-- what a step shows in an exchange
pub AtOpen : (Shared → Bay → Open → Option Steps.Turn) → (Option Open → Shared → Bay → Open → Option Steps.Turn) → Type 0
AtOpen f g =
    (sh : Shared) (b : Bay) (o : Open)
    → Same (Some o) (Some (Worlds.low_open o)) (f sh b o) (g (Some o) sh (Worlds.low_bay b) (Worlds.low_open o))

opened_at : (f : Shared → Bay → Open → Option Steps.Turn) (g : Option Open → Shared → Bay → Open → Option Steps.Turn)
    → AtOpen f g → (sh : Shared) (b : Bay) (o : Option Open)
    → Same o (option_map Worlds.low_open o) (Steps.at_open (f sh b) o)
    (Steps.at_open (g o sh (Worlds.low_bay b)) (option_map Worlds.low_open o))
unfolding AtOpen Same
opened_at f g h sh b None = refl
opened_at f g h sh b (Some o) = h sh b o

pub opened : (f : Shared → Bay → Open → Option Steps.Turn) (g : Option Open → Shared → Bay → Open → Option Steps.Turn)
    → AtOpen f g → AtBay (Steps.in_exchange f) (λ o. Steps.in_exchange (g o))
unfolding AtBay
opened f g h sh b = opened_at f g h sh b b.current

-- ---- Find and Change

same_row : (setup : Setup) (sh : Shared) (l : Level) (e : Errand) (seen : ℕ)
    → Worlds.low_found l (Steps.row_at setup sh.changes seen e)
    ≡ Worlds.low_found l (Steps.row_at setup sh.changes seen (Worlds.low_errand l e))
same_row setup sh level.None e seen = refl
same_row setup sh level.Metadata e seen = refl
same_row setup sh level.Request e seen = refl
same_row setup sh level.RequestResponse e seen = refl

-- an exchange with a note of what it saw
seen_with : Exchange → ℕ → Phase → List Due → Open
seen_with x seen ph ws = record { exchange = record x { seen = seen }; phase = ph; waiting = ws }

-- what was hidden before that note is hidden after it
same_seen : (o : Open) (seen : ℕ) (ph : Phase)
    → Worlds.low_open (seen_with o.exchange seen ph o.waiting)
    ≡ Worlds.low_open (seen_with (Worlds.low_exchange o.exchange) seen ph o.waiting)
unfolding seen_with
same_seen o seen ph =
    ap (λ x. record { exchange = record x { seen = seen }; phase = ph; waiting = o.waiting }) (sym (exchange_twice o.exchange))

pub found_low : (setup : Setup) (seen : ℕ) → AtOpen (Steps.found setup seen) (λ p. Steps.found setup seen)
unfolding AtOpen seen_with
found_low setup seen sh b o =
    same_if _ _ _ _ _ _ refl
    (same_turn (Some o) (Some (Worlds.low_open o)) sh _ _ _ _
    (current_low b b.number seen
    (seen_with o.exchange seen (record o.phase { found = true }) o.waiting)
    (seen_with (Worlds.low_exchange o.exchange) seen (record o.phase { found = true }) o.waiting)
    (same_seen o seen (record o.phase { found = true })))
    (ap Found (same_row setup sh o.exchange.level o.exchange.errand seen)))

-- the two turns of a change that is decided
same_decided : (sh : Shared) (b : Bay) (o : Open) (change : Change) (fault : Option ChangeFault)
    → low_turn (Some o) (Steps.decided sh b o change fault)
    ≡ low_turn (Some (Worlds.low_open o)) (Steps.decided sh (Worlds.low_bay b) (Worlds.low_open o) change fault)
unfolding seen_with
same_decided sh b o change fault =
    same_turn (Some o) (Some (Worlds.low_open o)) _ _ _ _ _
    (current_low b b.number _
    (seen_with o.exchange (length sh.changes) (record o.phase { decided = true }) o.waiting)
    (seen_with (Worlds.low_exchange o.exchange) (length sh.changes) (record o.phase { decided = true }) o.waiting)
    (same_seen o (length sh.changes) (record o.phase { decided = true })))
    refl

changed_if_low : (setup : Setup) (sh : Shared) (b : Bay) (o : Open) (asked : Option Change)
    → Same (Some o) (Some (Worlds.low_open o)) (Steps.changed_if setup sh b o asked)
    (Steps.changed_if setup sh (Worlds.low_bay b) (Worlds.low_open o) asked)
unfolding Same
changed_if_low setup sh b o None = refl
changed_if_low setup sh b o (Some change) =
    same_if_at (Steps.can_decide o) _ _ _ _
    (same_decided sh b o change (Steps.change_refusal setup sh.changes change))

pub changed_low : (setup : Setup) → AtOpen (Steps.changed setup) (λ p. Steps.changed setup)
unfolding AtOpen
changed_low setup sh b o = changed_if_low setup sh b o o.exchange.asked

-- ---- Started

same_can_start : (setup : Setup) (sh : Shared) (status : ℕ) (l : Level) (o : Open)
    → Steps.can_start l (Steps.handling_in setup sh (at_level l o)) (at_level l o) status
    ≡ Steps.can_start l (Steps.handling_in setup sh (Worlds.low_open (at_level l o))) (Worlds.low_open (at_level l o)) status
unfolding at_level
same_can_start setup sh status level.None o = refl
same_can_start setup sh status level.Metadata o = refl
same_can_start setup sh status level.Request o = refl
same_can_start setup sh status level.RequestResponse o = refl

same_started : (status m : ℕ) (l : Level) (f : Facts)
    → view l (Steps.facts_started status m f) ≡ view l (Steps.facts_started status m (view l f))
same_started status m level.None f = refl
same_started status m level.Metadata f = refl
same_started status m level.Request f =
    ap
    (λ k. record (recorded false false (Steps.facts_started status m f)) { request = k })
    (sym (shown_if_twice f.info.resource_request f.request))
same_started status m level.RequestResponse f =
    both
    (λ (k : Kept) (n : Kept). record (recorded false false (Steps.facts_started status m f)) { request = k; reply = n })
    (sym (shown_if_twice f.info.resource_request f.request))
    (sym (shown_if_twice (reply_due level.RequestResponse f.info) f.reply))

pub started_low : (setup : Setup) (status m : ℕ) → AtOpen (Steps.started setup status m) (λ p. Steps.started setup status m)
unfolding AtOpen at_level refacted
started_low setup status m sh b o =
    let e = same_started status m o.exchange.level o.exchange.facts in
    same_if _ _ _ _ _ _ (ap (λ c. Steps.is_ready o m && c) (same_can_start setup sh status o.exchange.level o))
    (same_turn (Some o) (Some (Worlds.low_open o)) sh _ _ _ _
    (current_low b b.number b.seen
    (Steps.started_with setup status m o)
    (Steps.started_with setup status m (Worlds.low_open o))
    (same_refacted o _ _ o.exchange.link NotUsed (record o.phase { started = Some status; last = m }) _ _ refl refl e
    (same_due setup ResponseStarted o.exchange.level _ _ e)))
    refl)

-- ---- Finish

-- of a link nothing but its status counts
same_link_status : (h : Handling) (link : LinkNote) → status_of h link ≡ status_of h (Whole (link_status link))
same_link_status (Refused code) link = refl
same_link_status (Served local reply change) link = refl
same_link_status (Proxied target) link = refl

same_can_finish : (setup : Setup) (sh : Shared) (link : LinkNote) (l : Level) (o : Open)
    → Steps.can_finish l (at_level l o) (status_of (Steps.handling_in setup sh (at_level l o)) link)
    ≡ Steps.can_finish l (Worlds.low_open (at_level l o))
    (status_of (Steps.handling_in setup sh (Worlds.low_open (at_level l o))) (Worlds.low_link l link))
unfolding at_level
same_can_finish setup sh link level.None o = refl
same_can_finish setup sh link level.Metadata o =
    ap (Steps.finishes (at_level level.Metadata o)) (same_link_status (Steps.handling_in setup sh o) link)
same_can_finish setup sh link level.Request o =
    ap (Steps.finishes (at_level level.Request o)) (same_link_status (Steps.handling_in setup sh o) link)
same_can_finish setup sh link level.RequestResponse o =
    ap (Steps.finishes (at_level level.RequestResponse o)) (same_link_status (Steps.handling_in setup sh o) link)

-- the reply that is recorded
same_reply : (rr long proxied h : Bool) (reply : Kept) (k : Bool → Kept)
    → shown_if (rr && not long) (kept_if (rr && not long) (if proxied then reply else k h))
    ≡ shown_if (rr && not long) (kept_if (rr && not long) (if proxied then shown_if (rr && not long) reply else k (rr && h)))
same_reply false long proxied h reply k = refl
same_reply true true proxied h reply k = refl
same_reply true false true h reply k = sym (shown_twice reply)
same_reply true false false h reply k = refl

viewed : Facts → ℕ → ℕ → Kept → Kept → ℕ → Facts
viewed f status m request reply started =
    record f { status = status; complete = m; request = request; reply = reply; started = started }

-- the start that is recorded
start_of : Facts → ℕ
start_of f = if is_long_running f.info then f.started else 0

same_start : (f : Facts) → start_of f ≡ (if is_long_running f.info then start_of f else 0)
unfolding start_of
same_start f = sym (moment_twice (is_long_running f.info) f.started)

same_finished : (setup : Setup) (sh : Shared) (link : LinkNote) (reply : Kept) (m : ℕ) (l : Level) (o : Open)
    → view l (Steps.facts_finished setup (Steps.handling_in setup sh (at_level l o)) link reply m (at_level l o))
    ≡ view l (Steps.facts_finished setup (Steps.handling_in setup sh (Worlds.low_open (at_level l o))) (Worlds.low_link l link) (Worlds.low_reply l o.exchange.facts.info reply) m (Worlds.low_open (at_level l o)))
unfolding at_level viewed start_of
same_finished setup sh link reply m level.None o = refl
same_finished setup sh link reply m level.Metadata o =
    both
    (λ (status : ℕ) (n : ℕ). viewed o.exchange.facts status m NotAsked NotAsked n)
    (same_link_status (Steps.handling_in setup sh o) link)
    (same_start o.exchange.facts)
same_finished setup sh link reply m level.Request o =
    both
    (λ (status : ℕ) (n : ℕ). viewed o.exchange.facts status m (shown_if o.exchange.facts.info.resource_request o.exchange.facts.request) NotAsked n)
    (same_link_status (Steps.handling_in setup sh o) link)
    (same_start o.exchange.facts)
    ∙ ap
    (λ k. viewed (view level.Request o.exchange.facts) (status_of (Steps.handling_in setup sh o) (Whole (link_status link))) m k NotAsked (if is_long_running o.exchange.facts.info then start_of o.exchange.facts else 0))
    (sym (shown_if_twice o.exchange.facts.info.resource_request o.exchange.facts.request))
same_finished setup sh link reply m level.RequestResponse o =
    both
    (λ (status : ℕ) (n : ℕ). viewed o.exchange.facts status m (shown_if o.exchange.facts.info.resource_request o.exchange.facts.request) (shown_if (reply_due level.RequestResponse o.exchange.facts.info) (Steps.reply_in setup (Steps.handling_in setup sh o) (at_level level.RequestResponse o) reply)) n)
    (same_link_status (Steps.handling_in setup sh o) link)
    (same_start o.exchange.facts)
    ∙ both
    (λ (k : Kept) (n : Kept). viewed (view level.RequestResponse o.exchange.facts) (status_of (Steps.handling_in setup sh o) (Whole (link_status link))) m k n (if is_long_running o.exchange.facts.info then start_of o.exchange.facts else 0))
    (sym (shown_if_twice o.exchange.facts.info.resource_request o.exchange.facts.request))
    (same_reply o.exchange.facts.info.resource_request (is_long_running o.exchange.facts.info)
    (Steps.is_proxied (Steps.handling_in setup sh o)) o.exchange.is_head reply
    (Steps.own_reply setup (Steps.handling_in setup sh o) o.exchange.managed))

unfoldable pub low_link_at : LinkNote → Option Open → LinkNote
low_link_at link None = NotUsed
low_link_at link (Some o) = Worlds.low_link o.exchange.level link

unfoldable pub low_reply_at : Kept → Option Open → Kept
low_reply_at reply None = NotAsked
low_reply_at reply (Some o) = Worlds.low_reply o.exchange.level o.exchange.facts.info reply

finish_open : Setup → Shared → LinkNote → Kept → ℕ → Open → Open
finish_open setup sh link reply m o = Steps.finished_with setup (Steps.handling_in setup sh o) link reply m o

kept_link : Setup → Shared → LinkNote → Open → LinkNote
kept_link setup sh link o = Steps.link_in (Steps.handling_in setup sh o) link

pub finished_low : (setup : Setup) (link : LinkNote) (reply : Kept) (m : ℕ)
    → AtOpen (Steps.finished setup link reply m) (λ p. Steps.finished setup (low_link_at link p) (low_reply_at reply p) m)
unfolding AtOpen at_level refacted low_link_at low_reply_at finish_open kept_link
finished_low setup link reply m sh b o =
    let e = same_finished setup sh link reply m o.exchange.level o in
    same_if _ _ _ _ _ _ (ap (λ c. Steps.is_ready o m && c) (same_can_finish setup sh link o.exchange.level o))
    (same_turn (Some o) (Some (Worlds.low_open o)) sh _ _ _ _
    (settled_low b
    (finish_open setup sh link reply m o)
    (finish_open setup sh (Worlds.low_link o.exchange.level link) (Worlds.low_reply o.exchange.level o.exchange.facts.info reply) m (Worlds.low_open o))
    (same_refacted o _ _
    (kept_link setup sh link o)
    (kept_link setup sh (Worlds.low_link o.exchange.level link) (Worlds.low_open o))
    (record o.phase { finished = true; last = m }) _ _ refl refl e
    (same_due setup ResponseComplete o.exchange.level _ _ e)))
    refl)

-- ---- Offer

noted_low : (setup : Setup) (w : Due) (rest : List Due) (outcome : Outcome) (o : Open)
    → Worlds.low_open (Steps.noted setup w rest outcome o) ≡ Worlds.low_open (Steps.noted setup w rest outcome (Worlds.low_open o))
noted_low setup w rest outcome o =
    ap
    (λ x. record { exchange = x; phase = (Steps.noted setup w rest outcome o).phase; waiting = rest })
    (sym (exchange_twice o.exchange))

offered_list_low : (setup : Setup) (bay : ℕ) (sink : Sink) (works : TryTold) (sh : Shared) (b : Bay) (o : Open) (ws : List Due)
    → Same (Some o) (Some (Worlds.low_open o)) (Steps.offered setup bay sink works sh b o ws)
    (Steps.offered setup bay sink works sh (Worlds.low_bay b) (Worlds.low_open o) ws)
unfolding Same
offered_list_low setup bay sink works sh b o [] = refl
offered_list_low setup bay sink works sh b o (w ∷ rest) =
    same_if_at (Steps.same_sink w.sink sink) _ _ _ _
    (same_turn (Some o) (Some (Worlds.low_open o)) _ _ _ _ _
    (settled_low b _ _ (noted_low setup w rest (Steps.pushed setup bay works sh w).outcome o))
    refl)

pub offered_low : (setup : Setup) (bay : ℕ) (sink : Sink) (works : TryTold)
    → AtOpen (Steps.offer setup bay sink works) (λ p. Steps.offer setup bay sink works)
unfolding AtOpen
offered_low setup bay sink works sh b o = offered_list_low setup bay sink works sh b o o.waiting

-- ---- a step of a sink

same_answer : (o : Option Open) (a : StepAnswer) → Worlds.low_answer o a ≡ Worlds.low_answer (option_map Worlds.low_open o) a
same_answer None a = refl
same_answer (Some o) (Found row) = refl
same_answer (Some o) Begun = refl
same_answer (Some o) (Offered outcome) = refl
same_answer (Some o) Noted = refl
same_answer (Some o) (Changed fault) = refl
same_answer (Some o) (Took line) = refl
same_answer (Some o) (Wrote n) = refl
same_answer (Some o) (Lost n) = refl
same_answer (Some o) Idle = refl

current_of_low : (b : Option Bay)
    → Worlds.current_of (option_map Worlds.low_bay b) ≡ option_map Worlds.low_open (Worlds.current_of b)
current_of_low None = refl
current_of_low (Some b) = refl

pub current_at_low : (s : State) (bay : ℕ)
    → Worlds.current_at (Worlds.low s) bay ≡ option_map Worlds.low_open (Worlds.current_at s bay)
unfolding Worlds.low
current_at_low s bay =
    ap Worlds.current_of (slice_get-map Worlds.low_bay s.bays bay) ∙ current_of_low (slice_get s.bays bay)

same_drained : (s : State) (sink : Sink) (o : Option Open) (d : Option Steps.Drained)
    → low_stepped o (Steps.drained s sink d) ≡ low_stepped (option_map Worlds.low_open o) (Steps.drained (Worlds.low s) sink d)
unfolding low_stepped Worlds.low
same_drained s sink o None =
    both
    (λ (bs : List Bay) (a : StepAnswer). record { state = record { shared = s.shared; bays = bs }; answer = a })
    (sym (bays_twice s.bays))
    (same_answer o Idle)
same_drained s sink o (Some d) =
    both
    (λ (bs : List Bay) (a : StepAnswer). record { state = record { shared = Steps.with_sink s.shared sink d.sink; bays = bs }; answer = a })
    (sym (bays_twice s.bays))
    (same_answer o d.answer)

pub same_at_sink : (s : State) (sink : Sink) (bay : ℕ) (f : SinkState → Option Steps.Drained)
    → low_stepped (Worlds.current_at s bay) (Steps.at_sink s sink f)
    ≡ low_stepped (Worlds.current_at (Worlds.low s) bay) (Steps.at_sink (Worlds.low s) sink f)
unfolding Worlds.low
same_at_sink s sink bay f =
    same_drained s sink (Worlds.current_at s bay) (f (Steps.sink_at s.shared sink))
    ∙ ap (λ o. low_stepped o (Steps.at_sink (Worlds.low s) sink f)) (sym (current_at_low s bay))
