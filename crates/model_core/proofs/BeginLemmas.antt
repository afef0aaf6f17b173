-- Each step leaves the exchanges of a bay what they have of their Begins, and a Begin that is taken adds one.
use Rattle.std.proofs.Common.{◌≡◌, ℕ, zero, suc, ◌+◌, ◌<◌, Bool, true, false, ◌&&◌, List, [], ◌∷◌, ◌++◌, length, map, Option, Some, None, refl, ap, sym, ◌∙◌, subst, get_or, append_assoc, length-append, arith}
use Rattle.std.proofs.lemmas.List.{append-nil, map-append, get_or-set_same, get_or-set_other}
use Rattle.std.proofs.lemmas.Option.{slice_get_within, get_or_from_slice_get}
use Rattle.std.specs.Prelude.{if◌then◌else◌, is_none, nat_lt, ◌==◌, slice_get, slice_set, IfSome}
use Rattle.apiservice_table.specs.declared.change.Change.{Change}
use Rattle.audit_core.specs.Answer.{status_of}
use Rattle.audit_core.specs.Offers.{Due}
use Rattle.audit_core.specs.declared.link_note.LinkNote.{LinkNote}
use Rattle.audit_core.specs.declared.sinks.Sink.{Sink}
use Rattle.model_core.proofs.Logic.{both, same_number, other_number, none_of, and_first, some_if, get_replicated}
use Rattle.model_core.specs.Begins.{Arrival, is_begun, arrivals_at, arrivals, arrivals_in, open_exchange, exchanges_of, wished, Began}
use Rattle.model_core.specs.Offered.{bay_at}
use Rattle.front_base.specs.AuditId.{AuditId}
use Rattle.front_base.specs.declared.audit_id.TheConstants.{MOST_REQUESTS}
use Rattle.http_edge.specs.declared.request.Request.{Request}
use Rattle.stage_event.specs.declared.facts.Kept.{Kept}
use Rattle.model_worlds.specs.Requests.{Wish, wish_of}
use Rattle.model_worlds.specs.Setup.{Setup}
use Rattle.model_worlds.specs.Steps
use Rattle.model_worlds.specs.declared.state.Bay.{Bay}
use Rattle.model_worlds.specs.declared.state.Exchange.{Exchange}
use Rattle.model_worlds.specs.declared.state.Open.{Open}
use Rattle.model_worlds.specs.declared.state.Shared.{Shared}
use Rattle.model_worlds.specs.declared.state.State.{State}
use Rattle.model_worlds.specs.declared.step.Step.{Step}
use Rattle.model_worlds.specs.declared.step.Step.TheVariants as step
use Rattle.model_worlds.specs.declared.step.StepAnswer.{StepAnswer}
use Rattle.model_worlds.specs.declared.step.StepAnswer.TheVariants.{Begun, Idle}
use Rattle.model_worlds.specs.declared.step.TryTold.{TryTold}

-- ---- what an exchange has of its Begin

record Birth : Type 0 where
  wish : Wish
  id : AuditId
  received : ℕ

abbrev birth : Exchange → Birth
birth x = record { wish = wished x; id = x.facts.id; received = x.facts.received }

abbrev open_birth : Option Open → List Birth
open_birth None = []
open_birth (Some o) = birth o.exchange ∷ []

abbrev births : Bay → List Birth
births b = map birth b.closed ++ open_birth b.current

abbrev pub id_of : Setup → ℕ → ℕ → AuditId
id_of setup bay number = record { boot = setup.boot; bay = bay; number = number }

-- what a Begin gives to an exchange of that number
abbrev birth_by : Setup → ℕ → ℕ → Arrival → Birth
birth_by setup bay number a =
    record { wish = wish_of setup a.peer a.request a.moment; id = id_of setup bay number; received = a.moment }

abbrev births_by : Setup → ℕ → ℕ → List Arrival → List Birth
births_by setup bay number [] = []
births_by setup bay number (a ∷ past) = birth_by setup bay number a ∷ births_by setup bay (number + 1) past

add_first : (n m : ℕ) → (n + 1) + m ≡ n + suc m
add_first n m = omega arith

births-push : (setup : Setup) (bay number : ℕ) (past : List Arrival) (a : Arrival)
    → births_by setup bay number (past ++ a ∷ [])
    ≡ births_by setup bay number past ++ birth_by setup bay (number + length past) a ∷ []
births-push setup bay number [] a = ap (λ n. birth_by setup bay n a ∷ []) (from_none number)
  where
    from_none : (n : ℕ) → n ≡ n + 0
    from_none n = omega arith
births-push setup bay number (c ∷ past) a =
    ap (λ l. birth_by setup bay number c ∷ l)
    (births-push setup bay (number + 1) past a
    ∙ ap (λ n. births_by setup bay (number + 1) past ++ birth_by setup bay n a ∷ []) (add_first number (length past)))

-- the exchanges of a bay are of these Begins, and its next number is how many these are
record Holds (setup : Setup) (bay : ℕ) (past : List Arrival) (b : Bay) : Type 0 where
  born : births b ≡ births_by setup bay 0 past
  number : b.number ≡ length past

-- ---- a bay that stays

record Stays (b c : Bay) : Type 0 where
  born : births c ≡ births b
  number : c.number ≡ b.number

stay : (b : Bay) → Stays b b
stay b = record { born = refl; number = refl }

held : (setup : Setup) (bay : ℕ) (past : List Arrival) (b c : Bay) → Stays b c → Holds setup bay past b
    → Holds setup bay past c
held setup bay past b c k h = record { born = k.born ∙ h.born; number = k.number ∙ h.number }

with_none : (setup : Setup) (bay : ℕ) (past more : List Arrival) (b : Bay) → more ≡ [] → Holds setup bay past b
    → Holds setup bay (past ++ more) b
with_none setup bay past more b e h =
    subst (λ l. Holds setup bay l b) (sym (ap (λ l. past ++ l) e ∙ append-nil past)) h

-- its exchange is replaced by one that has the same of its Begin
replaced : (b : Bay) (o p : Open) (seen : ℕ) → b.current ≡ Some o → birth p.exchange ≡ birth o.exchange
    → Stays b (record b { seen = seen; current = Some p })
replaced b o p seen e q =
    record {
      born = ap (λ x. map birth b.closed ++ x ∷ []) q ∙ ap (λ c. map birth b.closed ++ open_birth c) (sym e);
      number = refl;
    }

closing : (b : Bay) (o p : Open) (c : Bool) → b.current ≡ Some o → birth p.exchange ≡ birth o.exchange
    → Stays b (if c then record b { closed = b.closed ++ p.exchange ∷ []; current = None } else record b { current = Some p })
closing b o p true e q =
    record {
      born =
          append-nil (map birth (b.closed ++ p.exchange ∷ []))
          ∙ map-append birth b.closed (p.exchange ∷ [])
          ∙ (replaced b o p b.seen e q).born;
      number = refl;
    }
closing b o p false e q = replaced b o p b.seen e q

closed_or_not : (b : Bay) (o p : Open) → b.current ≡ Some o → birth p.exchange ≡ birth o.exchange
    → Stays b (Steps.settled b p)
closed_or_not b o p e q = closing b o p (p.phase.finished && Steps.no_wait p.waiting) e q

-- ---- each step of an open exchange

abbrev AllStay : Bay → (Open → Option Steps.Turn) → Type 0
AllStay b f = (o : Open) → b.current ≡ Some o → IfSome (f o) (λ t. Stays b t.bay)

at_open_stays : (b : Bay) (f : Open → Option Steps.Turn) (c : Option Open) → b.current ≡ c → AllStay b f
    → IfSome (Steps.at_open f c) (λ t. Stays b t.bay)
at_open_stays b f None e h = tt
at_open_stays b f (Some o) e h = h o e

find_stays : (setup : Setup) (seen : ℕ) (sh : Shared) (b : Bay) → AllStay b (Steps.found setup seen sh b)
find_stays setup seen sh b o e =
    some_if (λ (t : Steps.Turn). Stays b t.bay) (Steps.can_find seen sh b o) _
    (λ c. replaced b o (Steps.found_with seen o) seen e refl)

change_stays : (setup : Setup) (sh : Shared) (b : Bay) → AllStay b (Steps.changed setup sh b)
change_stays setup sh b o e = asked o.exchange.asked
  where
    asked : (a : Option Change) → IfSome (Steps.changed_if setup sh b o a) (λ t. Stays b t.bay)
    asked None = tt
    asked (Some change) =
        some_if (λ (t : Steps.Turn). Stays b t.bay) (Steps.can_decide o) _
        (λ c. replaced b o (Steps.decided_with (length sh.changes) o) _ e refl)

start_stays : (setup : Setup) (status m : ℕ) (sh : Shared) (b : Bay) → AllStay b (Steps.started setup status m sh b)
start_stays setup status m sh b o e =
    some_if (λ (t : Steps.Turn). Stays b t.bay)
    (Steps.is_ready o m && Steps.can_start o.exchange.level (Steps.handling_in setup sh o) o status) _
    (λ c. replaced b o (Steps.started_with setup status m o) b.seen e refl)

finish_stays : (setup : Setup) (link : LinkNote) (reply : Kept) (m : ℕ) (sh : Shared) (b : Bay)
    → AllStay b (Steps.finished setup link reply m sh b)
finish_stays setup link reply m sh b o e =
    some_if (λ (t : Steps.Turn). Stays b t.bay)
    (Steps.is_ready o m && Steps.can_finish o.exchange.level o (status_of (Steps.handling_in setup sh o) link)) _
    (λ c. closed_or_not b o (Steps.finished_with setup (Steps.handling_in setup sh o) link reply m o) e refl)

offer_stays : (setup : Setup) (i : ℕ) (sink : Sink) (works : TryTold) (sh : Shared) (b : Bay)
    → AllStay b (Steps.offer setup i sink works sh b)
offer_stays setup i sink works sh b o e = offered o.waiting
  where
    offered : (ws : List Due) → IfSome (Steps.offered setup i sink works sh b o ws) (λ t. Stays b t.bay)
    offered [] = tt
    offered (w ∷ rest) =
        some_if (λ (t : Steps.Turn). Stays b t.bay) (Steps.same_sink w.sink sink) _
        (λ c. closed_or_not b o (Steps.noted setup w rest (Steps.pushed setup i works sh w).outcome o) e refl)

-- ---- all bays, where one has such a turn

set_stays : (s : State) (i j : ℕ) (c : Bay) (same : Bool) → (j == i) ≡ same → i < length s.bays → Stays (bay_at s i) c
    → Stays (bay_at s j) (get_or (slice_set s.bays i c) j Steps.start_bay)
set_stays s i j c true q lt h =
    subst (λ b. Stays (bay_at s j) b)
    (sym (ap (λ n. get_or (slice_set s.bays i c) n Steps.start_bay) (same_number j i q) ∙ get_or-set_same s.bays i c Steps.start_bay lt))
    (subst (λ n. Stays (bay_at s n) c) (sym (same_number j i q)) h)
set_stays s i j c false q lt h =
    subst (λ b. Stays (bay_at s j) b)
    (sym (get_or-set_other s.bays i j c Steps.start_bay (other_number j i q)))
    (stay (bay_at s j))

turned_stays : (s : State) (i j : ℕ) (t : Option Steps.Turn) → i < length s.bays
    → IfSome t (λ t. Stays (bay_at s i) t.bay) → Stays (bay_at s j) (bay_at (Steps.turned s i t).state j)
turned_stays s i j None lt h = stay (bay_at s j)
turned_stays s i j (Some t) lt h = set_stays s i j t.bay (j == i) refl lt h

tried_stays : (f : Shared → Bay → Option Steps.Turn) (s : State) (i j : ℕ) (c : Option Bay) → slice_get s.bays i ≡ c
    → ((b : Bay) → IfSome (f s.shared b) (λ t. Stays b t.bay))
    → Stays (bay_at s j) (bay_at (Steps.turned s i (Steps.try_at f s.shared c)).state j)
tried_stays f s i j None at h = stay (bay_at s j)
tried_stays f s i j (Some b) at h =
    turned_stays s i j (f s.shared b) (slice_get_within s.bays i b at)
    (subst (λ c. IfSome (f s.shared b) (λ t. Stays c t.bay)) (sym (get_or_from_slice_get s.bays i b Steps.start_bay at)) (h b))

open_stays : (f : Shared → Bay → Open → Option Steps.Turn) (s : State) (i j : ℕ)
    → ((b : Bay) → AllStay b (f s.shared b)) → Stays (bay_at s j) (bay_at (Steps.at_bay s i (Steps.in_exchange f)).state j)
open_stays f s i j h =
    tried_stays (Steps.in_exchange f) s i j (slice_get s.bays i) refl
    (λ b. at_open_stays b (f s.shared b) b.current refl (h b))

drained_stays : (s : State) (sink : Sink) (d : Option Steps.Drained) (j : ℕ)
    → Stays (bay_at s j) (bay_at (Steps.drained s sink d).state j)
drained_stays s sink None j = stay (bay_at s j)
drained_stays s sink (Some d) j = stay (bay_at s j)

-- ---- Begin

-- a bay that took it
began : (setup : Setup) (i m place : ℕ) (peer : List ℕ) (r : Request) (past : List Arrival) (b : Bay)
    → b.current ≡ None → Holds setup i past b
    → Holds setup i (past ++ record { place = place; request = r; peer = peer; moment = m } ∷ [])
    (record b { number = b.number + 1; current = Some (Steps.begun setup i b.number (wish_of setup peer r m) m) })
began setup i m place peer r past b none h =
    let a : Arrival = record { place = place; request = r; peer = peer; moment = m } in
    let before : map birth b.closed ≡ births_by setup i 0 past =
    sym (append-nil (map birth b.closed)) ∙ ap (λ c. map birth b.closed ++ open_birth c) (sym none) ∙ h.born in
    record {
      born =
          both (λ (l : List Birth) (n : ℕ). l ++ birth_by setup i n a ∷ []) before (h.number ∙ from_none (length past))
          ∙ sym (births-push setup i 0 past a);
      number = ap (λ n. n + 1) h.number ∙ sym (length-append past (a ∷ []));
    }
  where
    from_none : (n : ℕ) → n ≡ 0 + n
    from_none n = omega arith

abbrev added : Bool → StepAnswer → Arrival → List Arrival
added same answer a = if same && is_begun answer then a ∷ [] else []

idle_adds : (same : Bool) (a : Arrival) → added same Idle a ≡ []
idle_adds true a = refl
idle_adds false a = refl

begun_adds : (same : Bool) (answer : StepAnswer) (a : Arrival) → same ≡ true → answer ≡ Begun → added same answer a ≡ a ∷ []
begun_adds same answer a e q = both (λ (x : Bool) (y : StepAnswer). added x y a) e q

other_adds : (same : Bool) (answer : StepAnswer) (a : Arrival) → same ≡ false → added same answer a ≡ []
other_adds same answer a e = ap (λ x. added x answer a) e

-- all bays hold their Begins
abbrev AllHold : Setup → (ℕ → List Arrival) → State → Type 0
AllHold setup past s = (j : ℕ) → Holds setup j (past j) (bay_at s j)

begun_place : (setup : Setup) (s : State) (past : ℕ → List Arrival) (i j : ℕ) (a : Arrival) (t : Steps.Turn) (same : Bool)
    → (i == j) ≡ same → i < length s.bays → t.answer ≡ Begun → Holds setup i (past i ++ a ∷ []) t.bay → AllHold setup past s
    → Holds setup j (past j ++ added (i == j) t.answer a) (get_or (slice_set s.bays i t.bay) j Steps.start_bay)
begun_place setup s past i j a t true q lt e k h =
    let place = same_number i j q in
    subst (λ l. Holds setup j (past j ++ l) (get_or (slice_set s.bays i t.bay) j Steps.start_bay))
    (sym (begun_adds (i == j) t.answer a q e))
    (subst (λ n. Holds setup n (past n ++ a ∷ []) (get_or (slice_set s.bays i t.bay) n Steps.start_bay)) place
    (subst (λ b. Holds setup i (past i ++ a ∷ []) b) (sym (get_or-set_same s.bays i t.bay Steps.start_bay lt)) k))
begun_place setup s past i j a t false q lt e k h =
    with_none setup j (past j) (added (i == j) t.answer a) (get_or (slice_set s.bays i t.bay) j Steps.start_bay)
    (other_adds (i == j) t.answer a q)
    (subst (λ b. Holds setup j (past j) b)
    (sym (get_or-set_other s.bays i j t.bay Steps.start_bay (λ p. other_number i j q (sym p))))
    (h j))

begun_turn : (setup : Setup) (s : State) (past : ℕ → List Arrival) (i j : ℕ) (a : Arrival) (t : Option Steps.Turn)
    → i < length s.bays → IfSome t (λ t. (t.answer ≡ Begun) × Holds setup i (past i ++ a ∷ []) t.bay) → AllHold setup past s
    → Holds setup j (past j ++ added (i == j) (Steps.turned s i t).answer a) (bay_at (Steps.turned s i t).state j)
begun_turn setup s past i j a None lt k h =
    with_none setup j (past j) (added (i == j) Idle a) (bay_at s j) (idle_adds (i == j) a) (h j)
begun_turn setup s past i j a (Some t) lt k h = begun_place setup s past i j a t (i == j) refl lt k.0 k.1 h

begun_by : (setup : Setup) (s : State) (past : ℕ → List Arrival) (i j m place : ℕ) (peer : List ℕ) (r : Request)
    (c : Option Bay) → slice_get s.bays i ≡ c → AllHold setup past s
    → Holds setup j
    (past j ++ added (i == j) (Steps.turned s i (Steps.try_at (Steps.begin setup i (wish_of setup peer r m) m) s.shared c)).answer
    (record { place = place; request = r; peer = peer; moment = m }))
    (bay_at (Steps.turned s i (Steps.try_at (Steps.begin setup i (wish_of setup peer r m) m) s.shared c)).state j)
begun_by setup s past i j m place peer r None at h =
    let a : Arrival = record { place = place; request = r; peer = peer; moment = m } in
    with_none setup j (past j) (added (i == j) Idle a) (bay_at s j) (idle_adds (i == j) a) (h j)
begun_by setup s past i j m place peer r (Some b) at h =
    let a : Arrival = record { place = place; request = r; peer = peer; moment = m } in
    begun_turn setup s past i j a (Steps.begin setup i (wish_of setup peer r m) m s.shared b) (slice_get_within s.bays i b at)
    (some_if (λ (t : Steps.Turn). (t.answer ≡ Begun) × Holds setup i (past i ++ a ∷ []) t.bay)
    (is_none b.current && nat_lt b.number MOST_REQUESTS) _
    (λ c. (
      refl,
      began setup i m place peer r (past i) b (none_of b.current (and_first (is_none b.current) (nat_lt b.number MOST_REQUESTS) c))
          (subst (λ d. Holds setup i (past i) d) (get_or_from_slice_get s.bays i b Steps.start_bay at) (h i)),
    )))
    h

-- ---- steps

step_holds : (setup : Setup) (own : Step) (s : State) (past : ℕ → List Arrival) (place : ℕ) → AllHold setup past s
    → AllHold setup (λ j. past j ++ arrivals_at j place own (Steps.step setup s own).answer) (Steps.step setup s own).state
unfolding Steps.step
step_holds setup (step.Begin i r peer m) s past place h j = begun_by setup s past i j m place peer r (slice_get s.bays i) refl h
step_holds setup (step.Find i seen) s past place h j =
    with_none setup j (past j) [] _ refl (held setup j (past j) (bay_at s j) _ (open_stays (Steps.found setup seen) s i j (find_stays setup seen s.shared)) (h j))
step_holds setup (step.Offer i sink works) s past place h j =
    with_none setup j (past j) [] _ refl (held setup j (past j) (bay_at s j) _ (open_stays (Steps.offer setup i sink works) s i j (offer_stays setup i sink works s.shared)) (h j))
step_holds setup (step.Started i status m) s past place h j =
    with_none setup j (past j) [] _ refl (held setup j (past j) (bay_at s j) _ (open_stays (Steps.started setup status m) s i j (start_stays setup status m s.shared)) (h j))
step_holds setup (step.Finish i link reply m) s past place h j =
    with_none setup j (past j) [] _ refl (held setup j (past j) (bay_at s j) _ (open_stays (Steps.finished setup link reply m) s i j (finish_stays setup link reply m s.shared)) (h j))
step_holds setup (step.Change i) s past place h j =
    with_none setup j (past j) [] _ refl (held setup j (past j) (bay_at s j) _ (open_stays (Steps.changed setup) s i j (change_stays setup s.shared)) (h j))
step_holds setup (step.Take sink) s past place h j =
    with_none setup j (past j) [] _ refl (held setup j (past j) (bay_at s j) _ (drained_stays s sink (Steps.take_line setup sink (Steps.sink_at s.shared sink)) j) (h j))
step_holds setup (step.Cut sink works) s past place h j =
    with_none setup j (past j) [] _ refl (held setup j (past j) (bay_at s j) _ (drained_stays s sink (Steps.cut_lines setup works (Steps.sink_at s.shared sink)) j) (h j))

steps_hold : (setup : Setup) (steps : List Step) (s : State) (past : ℕ → List Arrival) (place : ℕ) → AllHold setup past s
    → AllHold setup (λ j. past j ++ arrivals j place steps (Steps.answers_to setup s steps)) (Steps.after_steps setup s steps)
steps_hold setup [] s past place h j = with_none setup j (past j) [] (bay_at s j) refl (h j)
steps_hold setup (own ∷ steps) s past place h j =
    let t = Steps.step setup s own in
    subst (λ l. Holds setup j l (bay_at (Steps.after_steps setup t.state steps) j))
    (append_assoc (past j) (arrivals_at j place own t.answer) (arrivals j (place + 1) steps (Steps.answers_to setup t.state steps)))
    (steps_hold setup steps t.state (λ k. past k ++ arrivals_at k place own t.answer) (place + 1) (step_holds setup own s past place h) j)

start_holds : (setup : Setup) (bays : ℕ) → AllHold setup (λ j. []) (Steps.start bays)
start_holds setup bays j =
    subst (λ b. Holds setup j [] b) (sym (get_replicated bays j Steps.start_bay)) (record { born = refl; number = refl })

always_holds : (setup : Setup) (bays : ℕ) (steps : List Step) (bay : ℕ)
    → Holds setup bay (arrivals_in setup bays steps bay) (bay_at (Steps.after_steps setup (Steps.start bays) steps) bay)
always_holds setup bays steps bay = steps_hold setup steps (Steps.start bays) (λ j. []) 0 (start_holds setup bays) bay

-- ---- what the law says

all_births : (b : Bay) (c : Option Open) → map birth (b.closed ++ open_exchange c) ≡ map birth b.closed ++ open_birth c
all_births b None = map-append birth b.closed []
all_births b (Some o) = map-append birth b.closed (o.exchange ∷ [])

first_births : (a b : Birth) (l m : List Birth) → a ∷ l ≡ b ∷ m → (a ≡ b) × (l ≡ m)
first_births a b l m e = (cc, cc)

no_births : {A : Type 0} (a : Birth) (l : List Birth) → a ∷ l ≡ [] → A
no_births a l e = cc

began_from : (setup : Setup) (bay number : ℕ) (past : List Arrival) (xs : List Exchange)
    → map birth xs ≡ births_by setup bay number past → Began setup past xs
began_from setup bay number [] [] e = tt
began_from setup bay number [] (x ∷ xs) e = no_births (birth x) (map birth xs) e
began_from setup bay number (a ∷ past) [] e =
    no_births (birth_by setup bay number a) (births_by setup bay (number + 1) past) (sym e)
began_from setup bay number (a ∷ past) (x ∷ xs) e =
    let both_are = first_births (birth x) (birth_by setup bay number a) (map birth xs) (births_by setup bay (number + 1) past) e in (
      record { means = ap (λ (v : Birth). v.wish) both_are.0; received = ap (λ (v : Birth). v.received) both_are.0 },
      began_from setup bay (number + 1) past xs both_are.1,
    )

numbered_from : (setup : Setup) (bay : ℕ) (past : List Arrival) (xs : List Exchange) (number place : ℕ) (x : Exchange)
    → map birth xs ≡ births_by setup bay number past → slice_get xs place ≡ Some x
    → x.facts.id ≡ id_of setup bay (number + place)
numbered_from setup bay past [] number place x e at = cc
numbered_from setup bay [] (y ∷ xs) number place x e at = no_births (birth y) (map birth xs) e
numbered_from setup bay (a ∷ past) (y ∷ xs) number zero x e at =
    let both_are = first_births (birth y) (birth_by setup bay number a) (map birth xs) (births_by setup bay (number + 1) past) e in
    ap (λ (z : Exchange). z.facts.id) (sym (same_exchange y x at)) ∙ ap (λ (v : Birth). v.id) both_are.0
    ∙ ap (id_of setup bay) (from_none number)
  where
    from_none : (n : ℕ) → n ≡ n + 0
    from_none n = omega arith

    same_exchange : (y x : Exchange) → Some y ≡ Some x → y ≡ x
    same_exchange y x e = cc
numbered_from setup bay (a ∷ past) (y ∷ xs) number (suc place) x e at =
    let both_are = first_births (birth y) (birth_by setup bay number a) (map birth xs) (births_by setup bay (number + 1) past) e in
    numbered_from setup bay past xs (number + 1) place x both_are.1 at
    ∙ ap (id_of setup bay) (add_first number place)

pub begins_always : (setup : Setup) (bays : ℕ) (steps : List Step) (bay : ℕ)
    → Began setup (arrivals_in setup bays steps bay)
    (exchanges_of (bay_at (Steps.after_steps setup (Steps.start bays) steps) bay))
begins_always setup bays steps bay =
    let b = bay_at (Steps.after_steps setup (Steps.start bays) steps) bay in
    began_from setup bay 0 (arrivals_in setup bays steps bay) (exchanges_of b)
    (all_births b b.current ∙ (always_holds setup bays steps bay).born)

pub numbers_always : (setup : Setup) (bays : ℕ) (steps : List Step) (bay place : ℕ) (x : Exchange)
    → slice_get (exchanges_of (bay_at (Steps.after_steps setup (Steps.start bays) steps) bay)) place ≡ Some x
    → x.facts.id ≡ id_of setup bay place
numbers_always setup bays steps bay place x at =
    let b = bay_at (Steps.after_steps setup (Steps.start bays) steps) bay in
    numbered_from setup bay (arrivals_in setup bays steps bay) (exchanges_of b) 0 place x
    (all_births b b.current ∙ (always_holds setup bays steps bay).born) at
    ∙ ap (id_of setup bay) (from_none place)
  where
    from_none : (n : ℕ) → 0 + n ≡ n
    from_none n = omega arith
