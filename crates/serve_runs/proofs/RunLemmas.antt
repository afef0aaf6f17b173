-- A run, from roles that were made to what they leave.
use Rattle.std.proofs.Common.{◌≡◌, ℕ, zero, suc, List, [], ◌∷◌, length, map, slice_get, Option, Some, None, IfSome, All, refl, sym, ap, subst, ◌∙◌, ◌+◌, arith}
use Rattle.std.proofs.lemmas.List.Elements.{All-head, All-tail}
use Rattle.std.specs.Prelude.{option_map}
use Rattle.any_lane.specs.Lanes.{any_tells}
use Rattle.any_lane.specs.declared.lane.AnyLane.{AnyLane}
use Rattle.any_lane.specs.declared.lane.AnyLane.TheVariants as lane
use Rattle.audit_core.specs.declared.settings.Settings.{Settings}
use Rattle.audit_core.specs.declared.sinks.SinkMode.{SinkMode}
use Rattle.audit_core.specs.declared.sinks.SinkMode.TheVariants.{Off, Batch, Blocking, Strict}
use Rattle.batch_backend.specs.declared.limits.Limits.{Limits}
use Rattle.bay_runs.specs.Counts.{no_ends}
use Rattle.bay_runs.specs.Runs.{door_state}
use Rattle.bay_runs.specs.declared.end_counts.EndCounts.{EndCounts}
use Rattle.front_plants.specs.Fresh.{IsNewSink, Openings, SinkOpens, log_opens, hook_opens}
use Rattle.front_plants.specs.Plants.{PlantTells}
use Rattle.serve_bays.specs.Lanes.{LanesFor}
use Rattle.serve_bays.specs.Served.{SinkServed}
use Rattle.serve_bays.specs.declared.options.RunOptions.{RunOptions}
use Rattle.front_ports.specs.declared.clock.Clock as clocks
use Rattle.queue_drain.specs.declared.drain.QueueDrain.{QueueDrain}
use Rattle.role_threads.specs.Lists.{AllPairs}
use Rattle.role_threads.specs.declared.role.Roles.{Roles}
use Rattle.serve_roles.specs.Doors.{BayHandles, RanDoor, state_of}
use Rattle.serve_roles.specs.Ends.{bay_end, log_lane, hook_lane}
use Rattle.serve_roles.specs.Ready.{TakesLines}
use Rattle.serve_roles.specs.Roles.{RanBay}
use Rattle.serve_roles.specs.declared.bay_role.BayRole.{BayRole}
use Rattle.serve_bays.specs.Bays.{IsNewBay, routes_of}
use Rattle.serve_runs.specs.Made.{AreMade}
use Rattle.serve_runs.specs.Served.{BayServed, IsUnoffered, RunServed}
use Rattle.serve_runs.specs.Status.{status_of, stops_of}
use Rattle.serve_runs.specs.declared.ended.Ended.{Ended}
use Rattle.shared_queue.specs.Queues.{IsNewLane}
use Rattle.shared_queue.specs.declared.lane.QueueLane.{QueueLane}
use Rattle.shared_queue.specs.declared.outlet.QueueOutlet.{QueueOutlet}
use Rattle.sink_lanes.specs.Lanes.{IsOff, AllOff, own_lane, queue_lane}
use Rattle.sink_lanes.specs.Together.{SameAny}
use Rattle.truncate_backend.specs.Lanes.{LaneTells}
use Rattle.truncate_backend.specs.Tries.{Try, lines_of, done_of}
use Rattle.truncate_backend.specs.declared.sink.BatchSink as sinks

-- ---- which lanes bays may have

same_some : (m n : ℕ) → Some m ≡ Some n → m ≡ n
same_some m n e = cc

module _ {S R : Type 0} where
  off_at : (o : Option (AnyLane S R)) (k : ℕ) → IfSome o (TakesLines k Off)
  off_at None k = tt
  off_at (Some x) k = λ e. absurd cc

queue_take : (S : Type 0) {R : Type 0} (outlet : QueueOutlet R) (l : QueueLane R) (k : ℕ) → IsNewLane outlet k l
    → TakesLines {S = S} k Batch (queue_lane l)
queue_take S outlet l k n = λ e. ((λ b q. sym n.bay_is ∙ same_some _ _ q), refl)

queue_at : (S : Type 0) {R : Type 0} (outlet : QueueOutlet R) (ls : List (QueueLane R)) (i k : ℕ) → IfSome (slice_get ls i) (IsNewLane outlet k)
    → IfSome (slice_get (map queue_lane ls) i) (TakesLines {S = S} k Batch)
queue_at S outlet [] i k h = tt
queue_at S outlet (l ∷ ls) zero k h = queue_take S outlet l k h
queue_at S outlet (l ∷ ls) (suc i) k h = queue_at S outlet ls i k h

own_blocking : {S : Type 0} (R : Type 0) (own : List S) (i k : ℕ) → IfSome (slice_get (map own_lane own) i) (TakesLines {T = R} k Blocking)
own_blocking R [] i k = tt
own_blocking R (s ∷ own) zero k = λ e. ((λ b q. absurd cc), refl)
own_blocking R (s ∷ own) (suc i) k = own_blocking R own i k

own_strict : {S : Type 0} (R : Type 0) (own : List S) (i k : ℕ) → IfSome (slice_get (map own_lane own) i) (TakesLines {T = R} k Strict)
own_strict R [] i k = tt
own_strict R (s ∷ own) zero k = λ e. ((λ b q. absurd cc), refl)
own_strict R (s ∷ own) (suc i) k = own_strict R own i k

pub lanes_take : {S R K : Type 0} (s : sinks.Ghosts S) (clock : clocks.Ghosts K) (opens : SinkOpens) (mode : SinkMode) (bays capacity : ℕ) (allots : List ℕ) (limits : Limits) (lanes : List (AnyLane S R))
    (drain : Option (QueueDrain S R K)) → LanesFor s clock opens mode bays capacity allots limits lanes drain → (k : ℕ) → IfSome (slice_get lanes k) (TakesLines k mode)
lanes_take s clock opens Off bays capacity allots limits lanes drain h k = off_at (slice_get lanes k) k
lanes_take {S = S} s clock opens Batch bays capacity allots limits lanes drain h k =
    subst (λ z. IfSome (slice_get z k) (TakesLines k Batch)) (sym h.queued.lanes_are)
    (queue_at S h.queued.outlet h.queued.queue k k (h.queued.new.lanes_are k))
lanes_take {R = R} s clock opens Blocking bays capacity allots limits lanes drain h k =
    subst (λ z. IfSome (slice_get z k) (TakesLines k Blocking)) (sym h.lanes_are) (own_blocking R h.own k k)
lanes_take {R = R} s clock opens Strict bays capacity allots limits lanes drain h k =
    subst (λ z. IfSome (slice_get z k) (TakesLines k Strict)) (sym h.lanes_are) (own_strict R h.own k k)

pub image_count : {A B : Type 0} (f : A → B) (ys : List A) → length (map f ys) ≡ length ys
image_count f [] = refl
image_count f (y ∷ ys) = ap suc (image_count f ys)

pub lanes_count : {S R K : Type 0} (s : sinks.Ghosts S) (clock : clocks.Ghosts K) (opens : SinkOpens) (mode : SinkMode) (bays capacity : ℕ) (allots : List ℕ) (limits : Limits) (lanes : List (AnyLane S R))
    (drain : Option (QueueDrain S R K)) → LanesFor s clock opens mode bays capacity allots limits lanes drain → length lanes ≡ bays
lanes_count s clock opens Off bays capacity allots limits lanes drain h = h.count
lanes_count s clock opens Batch bays capacity allots limits lanes drain h =
    ap length h.queued.lanes_are ∙ (image_count queue_lane h.queued.queue ∙ (h.queued.new.count ∙ h.allotted.count))
lanes_count s clock opens Blocking bays capacity allots limits lanes drain h = ap length h.lanes_are ∙ (image_count own_lane h.own ∙ h.count)
lanes_count s clock opens Strict bays capacity allots limits lanes drain h = ap length h.lanes_are ∙ (image_count own_lane h.own ∙ h.count)

-- ---- to which lanes nothing was offered

abbrev Unoffered : {S R : Type 0} → sinks.Ghosts S → SinkOpens → AnyLane S R → Type 0
Unoffered s opens lane = IsUnoffered opens (any_tells s lane)

off_fresh : {S R : Type 0} (s : sinks.Ghosts S) (opens : SinkOpens) (l : AnyLane S R) → IsOff l → Unoffered s opens l
off_fresh s opens (lane.Off n) h = record { none_accepted = refl; none_tried = tt; no_full = refl; no_fault = h; new = tt }
off_fresh s opens (lane.Queue l) h = absurd h
off_fresh s opens (lane.Own l) h = absurd h

all_off_fresh : {S R : Type 0} (s : sinks.Ghosts S) (opens : SinkOpens) (ls : List (AnyLane S R)) (k : ℕ) → AllOff ls → IfSome (slice_get ls k) (Unoffered s opens)
all_off_fresh s opens [] k h = tt
all_off_fresh s opens (l ∷ ls) zero h = off_fresh s opens l h.0
all_off_fresh s opens (l ∷ ls) (suc k) h = all_off_fresh s opens ls k h.1

queue_fresh : {S R : Type 0} (s : sinks.Ghosts S) (opens : SinkOpens) (outlet : QueueOutlet R) (k : ℕ) (l : QueueLane R) → IsNewLane outlet k l
    → Unoffered s opens (queue_lane l)
queue_fresh s opens outlet k l n = record {
  none_accepted = subst (λ (t : LaneTells). IfSome t.accepted (λ xs. xs ≡ [])) (sym n.tells) refl;
  none_tried = subst (λ (t : LaneTells). IfSome t.tried (λ xs. xs ≡ [])) (sym n.tells) refl;
  no_full = ap (λ (t : LaneTells). t.fulls) n.tells;
  no_fault = refl;
  new = subst (λ (t : LaneTells). IfSome t.sink (IsNewSink opens)) (sym n.tells) tt;
}

queues_fresh : {S R : Type 0} (s : sinks.Ghosts S) (opens : SinkOpens) (outlet : QueueOutlet R) (ls : List (QueueLane R)) (i k : ℕ)
    → IfSome (slice_get ls i) (IsNewLane outlet k) → IfSome (slice_get (map queue_lane ls) i) (Unoffered s opens)
queues_fresh s opens outlet [] i k h = tt
queues_fresh s opens outlet (l ∷ ls) zero k h = queue_fresh s opens outlet k l h
queues_fresh s opens outlet (l ∷ ls) (suc i) k h = queues_fresh s opens outlet ls i k h

tries_fresh : (tries : Option (List Try)) → IfSome tries (λ ts. ts ≡ [])
    → IfSome (option_map done_of tries) (λ xs. xs ≡ []) × IfSome (option_map lines_of tries) (λ xs. xs ≡ [])
tries_fresh None h = (tt, tt)
tries_fresh (Some ts) h = (ap done_of h, ap lines_of h)

own_fresh : {S : Type 0} (R : Type 0) (s : sinks.Ghosts S) (opens : SinkOpens) (sink : S) → IsNewSink opens (s.tells sink)
    → Unoffered {R = R} s opens (own_lane sink)
own_fresh R s opens sink n =
    let t = tries_fresh (s.tells sink).tries n.no_try in
    record { none_accepted = t.0; none_tried = t.1; no_full = refl; no_fault = omega (arith, n.no_fault, n.no_refusal); new = n }

owns_fresh : {S : Type 0} (R : Type 0) (s : sinks.Ghosts S) (opens : SinkOpens) (own : List S) (k : ℕ)
    → All (λ sink. IsNewSink opens (s.tells sink)) own → IfSome (slice_get (map own_lane own) k) (Unoffered {R = R} s opens)
owns_fresh R s opens [] k h = tt
owns_fresh R s opens (x ∷ own) zero h = own_fresh R s opens x (All-head (λ z. IsNewSink opens (s.tells z)) x own h)
owns_fresh R s opens (x ∷ own) (suc k) h = owns_fresh R s opens own k (All-tail (λ z. IsNewSink opens (s.tells z)) x own h)

pub lanes_fresh : {S R K : Type 0} (s : sinks.Ghosts S) (clock : clocks.Ghosts K) (opens : SinkOpens) (mode : SinkMode) (bays capacity : ℕ) (allots : List ℕ) (limits : Limits) (lanes : List (AnyLane S R))
    (drain : Option (QueueDrain S R K)) → LanesFor s clock opens mode bays capacity allots limits lanes drain
    → (k : ℕ) → IfSome (slice_get lanes k) (λ lane. IsUnoffered opens (any_tells s lane))
lanes_fresh s clock opens Off bays capacity allots limits lanes drain h k = all_off_fresh s opens lanes k h.off
lanes_fresh s clock opens Batch bays capacity allots limits lanes drain h k =
    subst (λ z. IfSome (slice_get z k) (Unoffered s opens)) (sym h.queued.lanes_are)
    (queues_fresh s opens h.queued.outlet h.queued.queue k k (h.queued.new.lanes_are k))
lanes_fresh {R = R} s clock opens Blocking bays capacity allots limits lanes drain h k =
    subst (λ z. IfSome (slice_get z k) (Unoffered s opens)) (sym h.lanes_are) (owns_fresh R s opens h.own k h.new)
lanes_fresh {R = R} s clock opens Strict bays capacity allots limits lanes drain h k =
    subst (λ z. IfSome (slice_get z k) (Unoffered s opens)) (sym h.lanes_are) (owns_fresh R s opens h.own k h.new)

-- ---- what bays did

pairs_image : {A B : Type 0} (P : A → A → Type 0) (Q : B → B → Type 0) (f : A → B) → ((a b : A) → P a b → Q (f a) (f b))
    → (xs ys : List A) → AllPairs P xs ys → AllPairs Q (map f xs) (map f ys)
pairs_image P Q f step [] [] p = tt
pairs_image P Q f step [] (y ∷ ys) p = absurd p
pairs_image P Q f step (x ∷ xs) [] p = absurd p
pairs_image P Q f step (x ∷ xs) (y ∷ ys) p = (step x y p.0, pairs_image P Q f step xs ys p.1)

pub pairs_count : {A B : Type 0} (T : A → B → Type 0) (xs : List A) (ys : List B) → AllPairs T xs ys → length ys ≡ length xs
pairs_count T [] [] p = refl
pairs_count T [] (y ∷ ys) p = absurd p
pairs_count T (x ∷ xs) [] p = absurd p
pairs_count T (x ∷ xs) (y ∷ ys) p = ap suc (pairs_count T xs ys p.1)

shift : (n k : ℕ) → suc n + k ≡ n + suc k
shift n k = omega arith

-- what holds of what is made of each, which stands at its place in these lists too
pairs_served : {A B U V : Type 0} (T : A → A → Type 0) (Q : ℕ → A → Type 0) (e : A → B) (f : A → U) (g : A → V) (P : ℕ → B → Type 0)
    (us : List U) (vs : List V) (n : ℕ)
    → ((k : ℕ) (a b : A) → Q k a → T a b → slice_get us k ≡ Some (f b) → slice_get vs k ≡ Some (g b) → P k (e b))
    → (xs ys : List A) → AllPairs T xs ys
    → ((k : ℕ) → slice_get us (n + k) ≡ slice_get (map f ys) k) → ((k : ℕ) → slice_get vs (n + k) ≡ slice_get (map g ys) k)
    → ((k : ℕ) → IfSome (slice_get xs k) (Q (n + k))) → (k : ℕ) → IfSome (slice_get (map e ys) k) (P (n + k))
pairs_served T Q e f g P us vs n step [] [] p u v h k = tt
pairs_served T Q e f g P us vs n step [] (y ∷ ys) p u v h k = absurd p
pairs_served T Q e f g P us vs n step (x ∷ xs) [] p u v h k = absurd p
pairs_served T Q e f g P us vs n step (x ∷ xs) (y ∷ ys) p u v h zero = step (n + zero) x y (h zero) p.0 (u zero) (v zero)
pairs_served T Q e f g P us vs n step (x ∷ xs) (y ∷ ys) p u v h (suc k) =
    subst (λ i. IfSome (slice_get (map e ys) k) (P i)) (shift n k)
    (pairs_served T Q e f g P us vs (suc n) step xs ys p.1
    (λ i. subst (λ j. slice_get us j ≡ slice_get (map f ys) i) (sym (shift n i)) (u (suc i)))
    (λ i. subst (λ j. slice_get vs j ≡ slice_get (map g ys) i) (sym (shift n i)) (v (suc i)))
    (λ i. subst (λ j. IfSome (slice_get xs i) (Q j)) (sym (shift n i)) (h (suc i))) k)

first : (k : ℕ) → 0 + k ≡ k
first k = omega arith

-- the same, from the first one on
pairs_all : {A B U V : Type 0} (T : A → A → Type 0) (Q : ℕ → A → Type 0) (e : A → B) (f : A → U) (g : A → V) (P : ℕ → B → Type 0)
    (us : List U) (vs : List V)
    → ((k : ℕ) (a b : A) → Q k a → T a b → slice_get us k ≡ Some (f b) → slice_get vs k ≡ Some (g b) → P k (e b))
    → (xs ys : List A) → AllPairs T xs ys → us ≡ map f ys → vs ≡ map g ys
    → ((k : ℕ) → IfSome (slice_get xs k) (Q k)) → (k : ℕ) → IfSome (slice_get (map e ys) k) (P k)
pairs_all T Q e f g P us vs step xs ys p u v h k =
    subst (λ i. IfSome (slice_get (map e ys) k) (P i)) (first k)
    (pairs_served T Q e f g P us vs 0 step xs ys p
    (λ i. ap (λ j. slice_get us j) (first i) ∙ ap (λ l. slice_get l i) u)
    (λ i. ap (λ j. slice_get vs j) (first i) ∙ ap (λ l. slice_get l i) v)
    (λ i. subst (λ j. IfSome (slice_get xs i) (Q j)) (sym (first i)) (h i)) k)

-- what stands at a place of an image
at_image : {A B : Type 0} (f : A → B) (xs : List A) (k : ℕ) → IfSome (slice_get xs k) (λ a. slice_get (map f xs) k ≡ Some (f a))
at_image f [] k = tt
at_image f (x ∷ xs) zero = refl
at_image f (x ∷ xs) (suc k) = at_image f xs k

-- what holds of what is made of each
of_image : {A B : Type 0} (f : A → B) (P : B → Type 0) (xs : List A) (k : ℕ) → IfSome (slice_get (map f xs) k) P
    → IfSome (slice_get xs k) (λ a. P (f a))
of_image f P [] k h = tt
of_image f P (x ∷ xs) zero h = h
of_image f P (x ∷ xs) (suc k) h = of_image f P xs k h

all_four : {A : Type 0} (o : Option A) (P Q V W Z : A → Type 0) → ((a : A) → P a → Q a → V a → W a → Z a)
    → IfSome o P → IfSome o Q → IfSome o V → IfSome o W → IfSome o Z
all_four None P Q V W Z f p q v w = tt
all_four (Some x) P Q V W Z f p q v w = f x p q v w

module _ {R L N W H T K Y D C : Type 0} (h : BayHandles R L N W H K Y D C) where
  pub ran_count : (set : Settings) (options : RunOptions) (opens : Openings) (before after : PlantTells C) (tables : List R)
      (m : Roles (BayRole R L W H T K Y D) (QueueDrain W T K) (QueueDrain H T K)) (xs : List (BayRole R L W H T K Y D))
      → AreMade h set options opens before after tables m → AllPairs (RanBay h) m.bays.items xs
      → length xs ≡ options.bays
  ran_count set options opens before after tables m xs made ran = pairs_count (RanBay h) m.bays.items xs ran ∙ made.count

  same_log : (a b : BayRole R L W H T K Y D) → RanBay h a b → SameAny (log_lane a) (log_lane b)
  same_log a b r = let s = r.ran.told.lanes.log in record { bay = s.bay; home = s.home; queued = s.queued }

  same_hook : (a b : BayRole R L W H T K Y D) → RanBay h a b → SameAny (hook_lane a) (hook_lane b)
  same_hook a b r = let s = r.ran.told.lanes.hook in record { bay = s.bay; home = s.home; queued = s.queued }

  pub same_logs : (xs ys : List (BayRole R L W H T K Y D)) → AllPairs (RanBay h) xs ys → AllPairs SameAny (map log_lane xs) (map log_lane ys)
  same_logs xs ys p = pairs_image (RanBay h) SameAny log_lane same_log xs ys p

  pub same_hooks : (xs ys : List (BayRole R L W H T K Y D)) → AllPairs (RanBay h) xs ys → AllPairs SameAny (map hook_lane xs) (map hook_lane ys)
  same_hooks xs ys p = pairs_image (RanBay h) SameAny hook_lane same_hook xs ys p

  -- a new bay with its routes, to whose lanes nothing was offered
  record NewAt (set : Settings) (log_new hook_new : SinkOpens) (boot : ℕ) (due : ℕ → Option (List C)) (tables : List R) (k : ℕ) (a : BayRole R L W H T K Y D) : Type 0 where
    new : IsNewBay h set boot (due k) k a
    table : slice_get tables k ≡ Some (routes_of a)
    log : IsUnoffered log_new (any_tells h.log (log_lane a))
    hook : IsUnoffered hook_new (any_tells h.hook (hook_lane a))

  new_at : (set : Settings) (options : RunOptions) (opens : Openings) (before after : PlantTells C) (tables : List R)
      (m : Roles (BayRole R L W H T K Y D) (QueueDrain W T K) (QueueDrain H T K)) (made : AreMade h set options opens before after tables m)
      → (k : ℕ) → IfSome (slice_get m.bays.items k) (NewAt set (log_opens opens) (hook_opens opens options.hook_url) made.boot before.due tables k)
  new_at set options opens before after tables m made k =
      let xs = m.bays.items in
      let o = slice_get xs k in
      all_four o (IsNewBay h set made.boot (before.due k) k) (λ a. slice_get tables k ≡ Some (routes_of a))
      (λ a. IsUnoffered (log_opens opens) (any_tells h.log (log_lane a)))
      (λ a. IsUnoffered (hook_opens opens options.hook_url) (any_tells h.hook (hook_lane a)))
      (NewAt set (log_opens opens) (hook_opens opens options.hook_url) made.boot before.due tables k)
      (λ a p q r s. record { new = p; table = q; log = r; hook = s })
      (made.each k)
      (subst (λ l. IfSome o (λ a. slice_get l k ≡ Some (routes_of a))) made.routes (at_image routes_of xs k))
      (of_image log_lane (λ l. IsUnoffered (log_opens opens) (any_tells h.log l)) xs k
      (lanes_fresh h.log h.clock (log_opens opens) set.log options.bays options.buffer made.log_allots options.limits (map log_lane xs) m.log made.log k))
      (of_image hook_lane (λ l. IsUnoffered (hook_opens opens options.hook_url) (any_tells h.hook l)) xs k
      (lanes_fresh h.hook h.clock (hook_opens opens options.hook_url) set.hook options.bays options.buffer made.hook_allots options.limits (map hook_lane xs) m.hook made.hook k))

  bay_served : (set : Settings) (log_new hook_new : SinkOpens) (boot : ℕ) (due : ℕ → Option (List C)) (tables : List R) (logs : List (AnyLane W T)) (hooks : List (AnyLane H T))
      (k : ℕ) (a b : BayRole R L W H T K Y D) → NewAt set log_new hook_new boot due tables k a → RanBay h a b
      → slice_get logs k ≡ Some (log_lane b) → slice_get hooks k ≡ Some (hook_lane b)
      → BayServed h set log_new hook_new boot due tables logs hooks k (bay_end b)
  bay_served set log_new hook_new boot due tables logs hooks k a b at r log hook =
      let new = at.new in
      let ran : RanDoor h set a.own.bay a.door no_ends b.stop b.own.bay b.door b.counts =
      subst (λ (z : EndCounts). RanDoor h set a.own.bay a.door z b.stop b.own.bay b.door b.counts) new.counts
      (subst (λ z. RanDoor h z a.own.bay a.door a.counts b.stop b.own.bay b.door b.counts) new.settings r.ran) in
      record {
        m = state_of h a.own.bay;
        d = door_state h.door a.door;
        opens = record {
          boot_is = new.boot_is;
          number = new.number;
          bay_is = new.bay_is;
          lines = new.lines;
          lanes = (at.log, at.hook);
          dial = new.dial;
          clock = new.clock;
          diary = new.diary;
          door = new.door;
          due_is = new.due_is;
        };
        table = routes_of a;
        table_is = at.table;
        sees = record { opening = refl; seen = refl; own = refl };
        log = log_lane b;
        hook = hook_lane b;
        log_is = log;
        hook_is = hook;
        n = state_of h b.own.bay;
        ends = refl;
        runs = ran.runs;
        each = ran.each;
        told = ran.told;
      }

  pub run_served : (set : Settings) (options : RunOptions) (opens : Openings) (before after : PlantTells C) (tables : List R)
      (m : Roles (BayRole R L W H T K Y D) (QueueDrain W T K) (QueueDrain H T K)) (xs : List (BayRole R L W H T K Y D)) (ended : Ended R L W H K Y D)
      → (made : AreMade h set options opens before after tables m) → after.faults ≡ before.faults
      → AllPairs (RanBay h) m.bays.items xs
      → ended.bays.items ≡ map bay_end xs
      → SinkServed h.log h.clock (log_opens opens) set.log options.bays options.buffer made.log_allots options.limits (map log_lane xs) ended.log
      → SinkServed h.hook h.clock (hook_opens opens options.hook_url) set.hook options.bays options.buffer made.hook_allots options.limits (map hook_lane xs) ended.hook
      → ended.status ≡ status_of (stops_of ended.bays.items)
      → RunServed h T set options opens before after tables ended
  run_served set options opens before after tables m xs ended made faults ran e log hook status =
      let logs = map log_lane xs in
      let hooks = map hook_lane xs in
      record {
        boot = made.boot;
        log_allots = made.log_allots;
        hook_allots = made.hook_allots;
        called = made.called;
        faults = faults;
        logs = logs;
        hooks = hooks;
        count = ap length e ∙ (image_count bay_end xs ∙ ran_count set options opens before after tables m xs made ran);
        each = λ k.
            subst (λ l. IfSome (slice_get l k) (BayServed h set (log_opens opens) (hook_opens opens options.hook_url) made.boot before.due tables logs hooks k)) (sym e)
            (pairs_all (RanBay h) (NewAt set (log_opens opens) (hook_opens opens options.hook_url) made.boot before.due tables) bay_end log_lane hook_lane
            (λ i x. BayServed h set (log_opens opens) (hook_opens opens options.hook_url) made.boot before.due tables logs hooks i x)
            logs hooks
            (λ i a b new r p q. bay_served set (log_opens opens) (hook_opens opens options.hook_url) made.boot before.due tables logs hooks i a b new r p q)
            m.bays.items xs ran refl refl
            (new_at set options opens before after tables m made) k);
        log = log;
        hook = hook;
        status_is = status;
      }
