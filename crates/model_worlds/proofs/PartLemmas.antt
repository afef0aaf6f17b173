-- Each step keeps the parts of the sinks together.
use Rattle.std.proofs.Common.{◌-◌, ◌&&◌, not, ◌≡◌, ◌≢◌, ℕ, zero, suc, ◌+◌, ◌<◌, ◌≤◌, Bool, true, false, List, [], ◌∷◌, ◌++◌, length, take, drop, Option, Some, None, refl, ap, sym, ◌∙◌, subst, set, get_or, arith, append_assoc, length-append, replicate}
use Rattle.std.specs.Prelude.{if◌then◌else◌, slice_get, slice_set, nat_lt, ◌==◌, IfSome}
use Rattle.std.proofs.Math.Seq.{take-append_seam}
use Rattle.std.proofs.lemmas.Bool.Decides.{nat_tests}
use Rattle.std.proofs.lemmas.List.{length-set, append-nil, take-append-drop, get_or-set_same, get_or-set_other, length-take-le, length-drop, take_all}
use Rattle.std.proofs.lemmas.List.Elements.{filter-append}
use Rattle.std.proofs.lemmas.Grind.{common_steps}
use Rattle.std.proofs.lemmas.Option.{slice_get_within}
use Rattle.apiservice_table.specs.declared.change.Change.{Change}
use Rattle.audit_core.specs.Offers.{Due, mode_of}
use Rattle.audit_core.specs.declared.offers.Outcome.TheVariants.{Taken, Full}
use Rattle.audit_core.specs.declared.sinks.Sink.{Sink}
use Rattle.audit_core.specs.declared.sinks.Sink.TheVariants.{Log, Webhook}
use Rattle.audit_core.specs.declared.sinks.SinkMode.{SinkMode}
use Rattle.audit_core.specs.declared.sinks.SinkMode.TheVariants.{Off, Batch, Blocking, Strict}
use Rattle.front_base.specs.Line.{Line}
use Rattle.truncate_backend.specs.Tries.{Try, lines_of, bytes_of, try_of}
use Rattle.truncate_backend.specs.declared.fitted.Fit.{Fit}
use Rattle.truncate_backend.specs.declared.fitted.Fit.TheVariants as fit
use Rattle.model_worlds.specs.Parts.{lines_by, IsBatch, AreBatches, SinkParts, Parts}
use Rattle.model_worlds.specs.Setup.{Setup}
use Rattle.model_worlds.specs.Steps
use Rattle.model_worlds.specs.declared.state.Bay.{Bay}
use Rattle.model_worlds.specs.declared.state.Limits.{Limits}
use Rattle.model_worlds.specs.declared.state.Open.{Open}
use Rattle.model_worlds.specs.declared.state.Shared.{Shared}
use Rattle.model_worlds.specs.declared.state.SinkState.{SinkState}
use Rattle.model_worlds.specs.declared.state.State.{State}
use Rattle.model_worlds.specs.declared.step.Step.{Step}
use Rattle.model_worlds.specs.declared.step.TryTold.{TryTold}

-- ---- a sink that is offered a line

-- a push that is taken back
take_back : {A : Type 0} (xs ys : List A) (x : A) → ys ≡ xs ++ x ∷ [] → take (length ys - 1) ys ≡ xs
take_back xs ys x e =
    ap (λ zs. take (length zs - 1) zs) e ∙ ap (λ n. take n (xs ++ x ∷ [])) len ∙ take-append_seam xs (x ∷ [])
  where
    len : length (xs ++ x ∷ []) - 1 ≡ length xs
    len = omega (arith, length-append xs (x ∷ []))

lines_by-push : (bay : ℕ) (lines : List Line) (line : Line)
    → lines_by bay (lines ++ line ∷ []) ≡ lines_by bay lines ++ (if line.bay == bay then line ∷ [] else [])
lines_by-push bay lines line = filter-append (λ l. l.bay == bay) lines (line ∷ [])

-- a bay's place after a write to one
lane_push_same : (xs : List (List Line)) (i : ℕ) (line : Line) → i < length xs
    → get_or (set xs i (get_or xs i [] ++ line ∷ [])) i [] ≡ get_or xs i [] ++ line ∷ []
lane_push_same xs i line h = get_or-set_same xs i _ [] h

push_accepted : (line : Line) (s : SinkState) → line.bay < length s.accepted
    → ((bay : ℕ) → lines_by bay (s.taken ++ s.contents) ≡ get_or s.accepted bay []) → (bay : ℕ)
    → lines_by bay (s.taken ++ s.contents) ++ (if line.bay == bay then line ∷ [] else [])
    ≡ get_or (set s.accepted line.bay (get_or s.accepted line.bay [] ++ line ∷ [])) bay []
push_accepted line s h e bay = push_at (line.bay == bay) refl
  where
    push_at : (c : Bool) → (line.bay == bay) ≡ c
        → lines_by bay (s.taken ++ s.contents) ++ (if c then line ∷ [] else [])
        ≡ get_or (set s.accepted line.bay (get_or s.accepted line.bay [] ++ line ∷ [])) bay []
    push_at true q =
        let same : line.bay ≡ bay = grind (arith, nat_tests) in
        subst
        (λ b. lines_by b (s.taken ++ s.contents) ++ line ∷ [] ≡ get_or (set s.accepted line.bay (get_or s.accepted line.bay [] ++ line ∷ [])) b [])
        same
        (ap (λ ls. ls ++ line ∷ []) (e line.bay) ∙ sym (lane_push_same s.accepted line.bay line h))
    push_at false q =
        let differ : bay ≢ line.bay = grind (arith, nat_tests) in
        append-nil _ ∙ e bay ∙ sym (get_or-set_other s.accepted line.bay bay _ [] differ)

longer : (xs ys : List Line) (l : Line) (n : ℕ) → n ≤ length (xs ++ ys) → n ≤ length (xs ++ (ys ++ l ∷ []))
longer xs ys l n q =
    omega (arith, length-append xs ys, length-append xs (ys ++ l ∷ []), length-append ys (l ∷ []))

taken_in : (bays capacity : ℕ) (limits : Limits) (line : Line) (s : SinkState) → line.bay < bays
    → length s.contents < capacity → SinkParts bays capacity limits s
    → SinkParts bays capacity limits (record s { contents = s.contents ++ line ∷ []; accepted = slice_set s.accepted line.bay (Steps.at_lane s.accepted line.bay [] ++ line ∷ []) })
taken_in bays capacity limits line s h room p =
    record {
      tries = p.tries;
      accepted = λ bay.
          ap (lines_by bay) (sym (append_assoc s.taken s.contents (line ∷ [])))
          ∙ lines_by-push bay (s.taken ++ s.contents) line
          ∙ push_accepted line s (subst (λ n. line.bay < n) (sym p.places) h) p.accepted bay;
      room = grind (arith, common_steps);
      full = λ bay f. longer s.taken s.contents line capacity (p.full bay f);
      places = length-set s.accepted line.bay _ ∙ p.places;
      batches = p.batches;
      short = p.short;
      rest = p.rest;
    }

no_room : (bays capacity : ℕ) (limits : Limits) (bay n : ℕ) (s : SinkState) → capacity ≤ length s.contents
    → SinkParts bays capacity limits s
    → SinkParts bays capacity limits (record s { fulls = slice_set s.fulls bay n })
no_room bays capacity limits bay n s h p =
    record {
      tries = p.tries;
      accepted = p.accepted;
      room = p.room;
      full = λ b f. omega (arith, length-append s.taken s.contents);
      places = p.places;
      batches = p.batches;
      short = p.short;
      rest = p.rest;
    }

buffer_push : Bool → Line → SinkState → Steps.Pushed
buffer_push c line s =
    if c
    then record {
      sink = record s {
        contents = s.contents ++ line ∷ [];
        accepted = slice_set s.accepted line.bay (Steps.at_lane s.accepted line.bay [] ++ line ∷ []);
      };
      outcome = Taken;
    }
    else record {
      sink = record s { fulls = slice_set s.fulls line.bay (Steps.at_lane s.fulls line.bay 0 + 1) };
      outcome = Full;
    }

buffer-parts : (bays capacity : ℕ) (limits : Limits) (line : Line) (s : SinkState) (c : Bool)
    → nat_lt (length s.contents) capacity ≡ c → line.bay < bays → SinkParts bays capacity limits s
    → SinkParts bays capacity limits (buffer_push c line s).sink
unfolding buffer_push
buffer-parts bays capacity limits line s true q h p = taken_in bays capacity limits line s h (grind (arith, nat_tests)) p
buffer-parts bays capacity limits line s false q h p = no_room bays capacity limits line.bay _ s (grind (arith, nat_tests)) p

own-parts : (bays capacity : ℕ) (limits : Limits) (works : TryTold) (line : Line) (s : SinkState)
    → SinkParts bays capacity limits s → SinkParts bays capacity limits (Steps.push_own works line s).sink
own-parts bays capacity limits works line s p =
    record {
      tries = p.tries;
      accepted = p.accepted;
      room = p.room;
      full = p.full;
      places = p.places;
      batches = p.batches;
      short = p.short;
      rest = p.rest;
    }

push-parts : (mode : SinkMode) (bays capacity : ℕ) (limits : Limits) (works : TryTold) (line : Line) (s : SinkState)
    → line.bay < bays → SinkParts bays capacity limits s
    → SinkParts bays capacity limits (Steps.push_line mode capacity works line s).sink
unfolding buffer_push
push-parts Off bays capacity limits works line s h p = p
push-parts Batch bays capacity limits works line s h p =
    buffer-parts bays capacity limits line s (nat_lt (length s.contents) capacity) refl h p
push-parts Blocking bays capacity limits works line s h p = own-parts bays capacity limits works line s p
push-parts Strict bays capacity limits works line s h p = own-parts bays capacity limits works line s p

fit-parts : (mode : SinkMode) (bays capacity : ℕ) (limits : Limits) (works : TryTold) (bay : ℕ) (f : Fit) (s : SinkState)
    → bay < bays → SinkParts bays capacity limits s
    → SinkParts bays capacity limits (Steps.push_fit mode capacity works bay f s).sink
fit-parts mode bays capacity limits works bay (fit.Whole text) s h p = push-parts mode bays capacity limits works _ s h p
fit-parts mode bays capacity limits works bay (fit.Stripped text) s h p = push-parts mode bays capacity limits works _ s h p
fit-parts mode bays capacity limits works bay (fit.TooLarge size) s h p = p

-- ---- a sink whose writer takes a line

front-parts : (bays capacity : ℕ) (limits : Limits) (s : SinkState) (lines : List Line) → length s.pending < limits.lines
    → Steps.is_over limits.bytes s.pending ≡ false → SinkParts bays capacity limits (record s { contents = lines })
    → SinkParts bays capacity limits (Steps.take_front (record s { contents = lines }) lines).sink
front-parts bays capacity limits s [] few over p = p
front-parts bays capacity limits s (line ∷ rest) few over p =
    record {
      tries = sym (append_assoc (lines_of s.tries) s.pending (line ∷ [])) ∙ ap (λ ls. ls ++ line ∷ []) p.tries;
      accepted = λ bay. ap (lines_by bay) (append_assoc s.taken (line ∷ []) rest) ∙ p.accepted bay;
      room = omega (arith, p.room);
      full = λ bay f.
          subst (λ ls. capacity ≤ length ls) (sym (append_assoc s.taken (line ∷ []) rest)) (p.full bay f);
      places = p.places;
      batches = p.batches;
      short = omega (arith, length-append s.pending (line ∷ []));
      rest = ap (Steps.is_over limits.bytes) (take_back s.pending (s.pending ++ line ∷ []) line refl) ∙ over;
    }

-- ---- a sink whose writer makes a try

batches-push : (limits : Limits) (ts : List Try) (t : Try) → AreBatches limits ts → IsBatch limits t.lines
    → AreBatches limits (ts ++ t ∷ [])
batches-push limits [] t h k = (k, tt)
batches-push limits (u ∷ ts) t h k = (h.0, batches-push limits ts t h.1 k)

has_some : (ls : List Line) → Steps.has_line ls ≡ true → 0 < length ls
has_some [] h = cc
has_some (l ∷ ls) h = omega arith

-- a cut by whether there is too much
cut_by : Bool → List Line → ℕ
cut_by c ls = if c then length ls - 1 else length ls

two_of : (bytes : ℕ) (ls : List Line) → Steps.is_over bytes ls ≡ true → 1 < length ls
two_of bytes ls h = two_by (nat_lt 1 (length ls)) (nat_lt bytes (bytes_of ls)) refl h
  where
    two_by : (a b : Bool) → nat_lt 1 (length ls) ≡ a → (a && b) ≡ true → 1 < length ls
    two_by true b e q = grind (arith, nat_tests)
    two_by false b e q = cc

cut_fits : (limits : Limits) (ls : List Line) (c : Bool) → Steps.is_over limits.bytes ls ≡ c → 0 < length ls
    → length ls ≤ limits.lines → Steps.is_over limits.bytes (take (length ls - 1) ls) ≡ false
    → IsBatch limits (take (cut_by c ls) ls)
unfolding cut_by
cut_fits limits ls true q some short rest =
    let two = two_of limits.bytes ls q in
    let len : length (take (length ls - 1) ls) ≡ length ls - 1 = length-take-le (length ls - 1) ls (omega arith) in
    (omega (arith, len), omega (arith, len), rest)
cut_fits limits ls false q some short rest =
    let all : take (length ls) ls ≡ ls = take_all (length ls) ls (omega arith) in
    let len : length (take (length ls) ls) ≡ length ls = ap length all in
    (omega (arith, len), omega (arith, len), ap (Steps.is_over limits.bytes) all ∙ q)

-- at most one line is left
cut_left : (c : Bool) (ls : List Line) → 0 < length ls → length (drop (cut_by c ls) ls) ≤ 1
unfolding cut_by
cut_left true ls some = omega (arith, length-drop (length ls - 1) ls)
cut_left false ls some = omega (arith, length-drop (length ls) ls)

one_left : (bytes : ℕ) (ls : List Line) → length ls ≤ 1 → Steps.is_over bytes (take (length ls - 1) ls) ≡ false
one_left bytes [] h = refl
one_left bytes (l ∷ []) h = refl
one_left bytes (l ∷ m ∷ ls) h = absurd (too_many (length ls) h)
  where
    too_many : (n : ℕ) → suc (suc n) ≤ 1 → ⊥
    too_many n q = omega arith

lines-push : (tries : List Try) (t : Try) → lines_of (tries ++ t ∷ []) ≡ lines_of tries ++ t.lines
lines-push [] t = append-nil t.lines
lines-push (u ∷ tries) t =
    ap (λ ls. u.lines ++ ls) (lines-push tries t) ∙ sym (append_assoc u.lines (lines_of tries) t.lines)

few : (a b c : ℕ) → 0 < a → a ≤ c → b ≤ 1 → b ≤ c
few a b c p q r = omega arith

cut-parts : (bays capacity : ℕ) (limits : Limits) (works : TryTold) (s : SinkState)
    → Steps.has_line s.pending ≡ true → SinkParts bays capacity limits s
    → SinkParts bays capacity limits (Steps.cut_with works s (Steps.cut_count limits.bytes s.pending)).sink
unfolding cut_by
cut-parts bays capacity limits works s h p =
    let n = Steps.cut_count limits.bytes s.pending in
    let some = has_some s.pending h in
    let left = cut_left (Steps.is_over limits.bytes s.pending) s.pending some in
    let t = try_of (take n s.pending) works.sent works.answer in
    record {
      tries =
          ap (λ ls. ls ++ drop n s.pending) (lines-push s.tries t)
          ∙ append_assoc (lines_of s.tries) (take n s.pending) (drop n s.pending)
          ∙ ap (λ ls. lines_of s.tries ++ ls) (take-append-drop n s.pending)
          ∙ p.tries;
      accepted = p.accepted;
      room = p.room;
      full = p.full;
      places = p.places;
      batches =
          batches-push limits s.tries t p.batches
          (cut_fits limits s.pending (Steps.is_over limits.bytes s.pending) refl some p.short p.rest);
      short = few (length s.pending) _ limits.lines some p.short left;
      rest = one_left limits.bytes (drop n s.pending) left;
    }

-- ---- both sinks

-- the sinks of what the bays share
Hold : Setup → ℕ → Shared → Type 0
Hold setup bays sh = (sink : Sink) → SinkParts bays (setup.capacity sink) setup.limits (Steps.sink_at sh sink)

held_with : (setup : Setup) (bays : ℕ) (sh : Shared) (sink : Sink) (s : SinkState)
    → SinkParts bays (setup.capacity sink) setup.limits s → Hold setup bays sh
    → Hold setup bays (Steps.with_sink sh sink s)
unfolding Hold
held_with setup bays sh Log s h p Log = h
held_with setup bays sh Log s h p Webhook = p Webhook
held_with setup bays sh Webhook s h p Log = p Log
held_with setup bays sh Webhook s h p Webhook = h

-- what a step of a bay leaves of them
Keeps : Setup → ℕ → Option Steps.Turn → Type 0
Keeps setup bays t = IfSome t (λ u. Hold setup bays u.shared)

keeps_if : (setup : Setup) (bays : ℕ) (c : Bool) (t : Steps.Turn) → Hold setup bays t.shared
    → Keeps setup bays (if c then Some t else None)
unfolding Keeps
keeps_if setup bays true t h = h
keeps_if setup bays false t h = tt

keeps_open : (setup : Setup) (bays : ℕ) (f : Open → Option Steps.Turn) (o : Option Open)
    → ((p : Open) → Keeps setup bays (f p)) → Keeps setup bays (Steps.at_open f o)
unfolding Keeps
keeps_open setup bays f None h = tt
keeps_open setup bays f (Some o) h = h o

-- a change of the table leaves the sinks
held_changes : (setup : Setup) (bays : ℕ) (sh : Shared) (changes : List Change) → Hold setup bays sh
    → Hold setup bays (record sh { changes = changes })
unfolding Hold
held_changes setup bays sh changes h Log = h Log
held_changes setup bays sh changes h Webhook = h Webhook

keeps_changed : (setup : Setup) (bays : ℕ) (sh : Shared) (b : Bay) (o : Open) (asked : Option Change) → Hold setup bays sh
    → Keeps setup bays (Steps.changed_if setup sh b o asked)
unfolding Keeps
keeps_changed setup bays sh b o None h = tt
keeps_changed setup bays sh b o (Some change) h =
    keeps_if setup bays (Steps.can_decide o) _ (held_changes setup bays sh _ h)

keeps_offer : (setup : Setup) (bays bay : ℕ) (sink : Sink) (works : TryTold) (sh : Shared) (b : Bay) (o : Open)
    (ws : List Due) → bay < bays → Hold setup bays sh → Keeps setup bays (Steps.offered setup bay sink works sh b o ws)
unfolding Keeps Hold
keeps_offer setup bays bay sink works sh b o [] lt h = tt
keeps_offer setup bays bay sink works sh b o (w ∷ rest) lt h =
    keeps_if setup bays (Steps.same_sink w.sink sink) _
    (held_with setup bays sh w.sink (Steps.pushed setup bay works sh w).sink
    (fit-parts (mode_of setup.set w.sink) bays (setup.capacity w.sink) setup.limits works bay w.fit (Steps.sink_at sh w.sink) lt
    (h w.sink))
    h)

-- ---- states

pub record StateParts (setup : Setup) (bays : ℕ) (s : State) : Type 0 where
  pub sinks : Parts setup bays s
  pub count : length s.bays ≡ bays

turned-parts : (setup : Setup) (bays : ℕ) (s : State) (bay : ℕ) (t : Option Steps.Turn) → StateParts setup bays s
    → Keeps setup bays t → StateParts setup bays (Steps.turned s bay t).state
unfolding Keeps Hold
turned-parts setup bays s bay None p h = p
turned-parts setup bays s bay (Some t) p h = record { sinks = h; count = length-set s.bays bay t.bay ∙ p.count }

tried-parts : (setup : Setup) (bays : ℕ) (f : Shared → Bay → Option Steps.Turn) (s : State) (bay : ℕ) (b : Option Bay)
    → slice_get s.bays bay ≡ b → StateParts setup bays s
    → (bay < bays → (c : Bay) → Keeps setup bays (f s.shared c))
    → Keeps setup bays (Steps.try_at f s.shared b)
unfolding Keeps
tried-parts setup bays f s bay None q p h = tt
tried-parts setup bays f s bay (Some b) q p h =
    h (subst (λ n. bay < n) p.count (slice_get_within s.bays bay b q)) b

at_bay-parts : (setup : Setup) (bays : ℕ) (f : Shared → Bay → Option Steps.Turn) (s : State) (bay : ℕ)
    → StateParts setup bays s → (bay < bays → (c : Bay) → Keeps setup bays (f s.shared c))
    → StateParts setup bays (Steps.at_bay s bay f).state
at_bay-parts setup bays f s bay p h =
    turned-parts setup bays s bay _ p (tried-parts setup bays f s bay (slice_get s.bays bay) refl p h)

drained-parts : (setup : Setup) (bays : ℕ) (s : State) (sink : Sink) (d : Option Steps.Drained) → StateParts setup bays s
    → IfSome d (λ e. SinkParts bays (setup.capacity sink) setup.limits e.sink)
    → StateParts setup bays (Steps.drained s sink d).state
unfolding Hold
drained-parts setup bays s sink None p h = p
drained-parts setup bays s sink (Some d) p h =
    record { sinks = held_with setup bays s.shared sink d.sink h p.sinks; count = p.count }

some_given : {A : Type 0} (P : A → Type 0) (c : Bool) (a : A) → (c ≡ true → P a) → IfSome (if c then Some a else None) P
some_given P true a h = h refl
some_given P false a h = tt

less_of : (a b : ℕ) → nat_lt a b ≡ true → a < b
less_of a b h = grind (arith, nat_tests)

and_first : (a b : Bool) → (a && b) ≡ true → a ≡ true
and_first true b h = refl
and_first false b h = h

and_second : (a b : Bool) → (a && b) ≡ true → b ≡ true
and_second true b h = h
and_second false b h = cc

no_of : (a : Bool) → not a ≡ true → a ≡ false
no_of true h = sym h
no_of false h = refl

take-parts : (setup : Setup) (bays : ℕ) (sink : Sink) (s : SinkState)
    → SinkParts bays (setup.capacity sink) setup.limits s
    → IfSome (Steps.take_line setup sink s) (λ e. SinkParts bays (setup.capacity sink) setup.limits e.sink)
take-parts setup bays sink s h =
    some_given (λ e. SinkParts bays (setup.capacity sink) setup.limits e.sink) _ _
    (λ c.
    let d = and_second (Steps.is_batch (mode_of setup.set sink)) _ c in
    front-parts bays (setup.capacity sink) setup.limits s s.contents
    (less_of _ _ (and_first _ _ d))
    (no_of _ (and_second (nat_lt (length s.pending) setup.limits.lines) _ d))
    h)

cut_line-parts : (setup : Setup) (bays : ℕ) (sink : Sink) (works : TryTold) (s : SinkState)
    → SinkParts bays (setup.capacity sink) setup.limits s
    → IfSome (Steps.cut_lines setup works s) (λ e. SinkParts bays (setup.capacity sink) setup.limits e.sink)
cut_line-parts setup bays sink works s h =
    some_given (λ e. SinkParts bays (setup.capacity sink) setup.limits e.sink) _ _
    (λ c. cut-parts bays (setup.capacity sink) setup.limits works s c h)

move-parts : (setup : Setup) (bays : ℕ) (s : State) (m : Steps.Move) → StateParts setup bays s
    → StateParts setup bays (Steps.move setup s m).state
unfolding Hold
move-parts setup bays s (Steps.BeginMove bay w moment) p =
    at_bay-parts setup bays (Steps.begin setup bay w moment) s bay p (λ lt b. keeps_if setup bays _ _ p.sinks)
move-parts setup bays s (Steps.FindMove bay seen) p =
    at_bay-parts setup bays (Steps.in_exchange (Steps.found setup seen)) s bay p
    (λ lt b. keeps_open setup bays _ b.current (λ o. keeps_if setup bays _ _ p.sinks))
move-parts setup bays s (Steps.OfferMove bay sink works) p =
    at_bay-parts setup bays (Steps.in_exchange (Steps.offer setup bay sink works)) s bay p
    (λ lt b. keeps_open setup bays _ b.current (λ o. keeps_offer setup bays bay sink works s.shared b o o.waiting lt p.sinks))
move-parts setup bays s (Steps.StartedMove bay status moment) p =
    at_bay-parts setup bays (Steps.in_exchange (Steps.started setup status moment)) s bay p
    (λ lt b. keeps_open setup bays _ b.current (λ o. keeps_if setup bays _ _ p.sinks))
move-parts setup bays s (Steps.FinishMove bay link reply moment) p =
    at_bay-parts setup bays (Steps.in_exchange (Steps.finished setup link reply moment)) s bay p
    (λ lt b. keeps_open setup bays _ b.current (λ o. keeps_if setup bays _ _ p.sinks))
move-parts setup bays s (Steps.ChangeMove bay) p =
    at_bay-parts setup bays (Steps.in_exchange (Steps.changed setup)) s bay p
    (λ lt b. keeps_open setup bays _ b.current (λ o. keeps_changed setup bays s.shared b o o.exchange.asked p.sinks))
move-parts setup bays s (Steps.TakeMove sink) p =
    drained-parts setup bays s sink _ p (take-parts setup bays sink (Steps.sink_at s.shared sink) (p.sinks sink))
move-parts setup bays s (Steps.CutMove sink works) p =
    drained-parts setup bays s sink _ p (cut_line-parts setup bays sink works (Steps.sink_at s.shared sink) (p.sinks sink))

steps-parts : (setup : Setup) (bays : ℕ) (steps : List Step) (s : State) → StateParts setup bays s
    → StateParts setup bays (Steps.after_steps setup s steps)
unfolding Steps.step
steps-parts setup bays [] s p = p
steps-parts setup bays (a ∷ steps) s p =
    steps-parts setup bays steps (Steps.step setup s a).state (move-parts setup bays s (Steps.move_of setup a) p)

-- ---- the start

replicated : {A : Type 0} (n b : ℕ) (a : A) → get_or (replicate n a) b a ≡ a
replicated zero b a = refl
replicated (suc n) zero a = refl
replicated (suc n) (suc b) a = replicated n b a

length-replicated : {A : Type 0} (n : ℕ) (a : A) → length (replicate n a) ≡ n
length-replicated zero a = refl
length-replicated (suc n) a = ap suc (length-replicated n a)

start_sink-parts : (bays capacity : ℕ) (limits : Limits) → SinkParts bays capacity limits (Steps.start_sink bays)
start_sink-parts bays capacity limits =
    record {
      tries = refl;
      accepted = λ bay. sym (replicated bays bay []);
      room = omega arith;
      full = λ bay f. let zeros = replicated {A = ℕ} bays bay 0 in omega (arith, zeros);
      places = length-replicated bays [];
      batches = tt;
      short = omega arith;
      rest = refl;
    }

start_sinks : (setup : Setup) (bays : ℕ) → Parts setup bays (Steps.start bays)
start_sinks setup bays Log = start_sink-parts bays (setup.capacity Log) setup.limits
start_sinks setup bays Webhook = start_sink-parts bays (setup.capacity Webhook) setup.limits

pub parts_always : (setup : Setup) (bays : ℕ) (steps : List Step)
    → Parts setup bays (Steps.after_steps setup (Steps.start bays) steps)
parts_always setup bays steps =
    (steps-parts setup bays steps (Steps.start bays)
    (record { sinks = start_sinks setup bays; count = length-replicated bays Steps.start_bay })).sinks
