-- Lanes and a drainer that were made together stay so.
use Rattle.std.proofs.Common.{◌≡◌, ◌<◌, ◌≤◌, ◌+◌, ◌⊎◌, inl, inr, ℕ, zero, suc, List, [], ◌∷◌, length, map, sum, get_or, slice_get, IfSome, All, Option, Some, None, refl, sym, ap, ◌∙◌, subst, arith}
use Rattle.any_lane.specs.declared.lane.AnyLane.{AnyLane}
use Rattle.any_lane.specs.declared.lane.AnyLane.TheVariants.{Off, Queue, Own}
use Rattle.batch_backend.specs.declared.limits.Limits.{Limits}
use Rattle.front_ports.specs.declared.clock.Clock as clocks
use Rattle.queue_drain.specs.Drains.{RanDrain, drain_outlet, drain_state}
use Rattle.queue_drain.specs.declared.drain.QueueDrain.{QueueDrain}
use Rattle.role_threads.specs.Lists.{AllPairs, IfBoth}
use Rattle.shared_queue.specs.Lanes.{LaneParts, CanBeFull, lane_accepted, lane_allotment, lane_allotments, lane_bay, lane_capacity, lane_home}
use Rattle.shared_queue.specs.Queues.{AreOneQueue, IsNewLane, IsNewQueue, OneHome, outlet_allotments, outlet_capacity, outlet_home}
use Rattle.shared_queue.specs.declared.lane.QueueLane.{QueueLane}
use Rattle.shared_queue.specs.declared.outlet.QueueOutlet.{QueueOutlet}
use Rattle.sink_lanes.specs.Ends.{CanEnd, queued_parts}
use Rattle.sink_lanes.specs.Lanes.{AreQueued, queue_lane}
use Rattle.sink_lanes.specs.Together.{SameAny, ToldQueued, StayTogether}
use Rattle.truncate_backend.specs.Tries.{SinkTells, KeepsSent}
use Rattle.truncate_backend.specs.declared.sink.BatchSink as sinks

-- what holds at each place, over pairs
pairs_each : {A B : Type 0} (T : A → B → Type 0) (Q : ℕ → A → Type 0) (P : ℕ → B → Type 0)
    → ((k : ℕ) (a : A) (b : B) → Q k a → T a b → P k b) → (xs : List A) (ys : List B) → AllPairs T xs ys
    → ((k : ℕ) → IfSome (slice_get xs k) (Q k)) → (k : ℕ) → IfSome (slice_get ys k) (P k)
pairs_each T Q P step [] [] p f k = tt
pairs_each T Q P step [] (y ∷ ys) p f k = absurd p
pairs_each T Q P step (x ∷ xs) [] p f k = absurd p
pairs_each T Q P step (x ∷ xs) (y ∷ ys) p f zero = step 0 x y (f 0) p.0
pairs_each T Q P step (x ∷ xs) (y ∷ ys) p f (suc k) =
    pairs_each T (λ n. Q (suc n)) (λ n. P (suc n)) (λ n. step (suc n)) xs ys p.1 (λ n. f (suc n)) k

pairs_count : {A B : Type 0} (T : A → B → Type 0) (xs : List A) (ys : List B) → AllPairs T xs ys → length ys ≡ length xs
pairs_count T [] [] p = refl
pairs_count T [] (y ∷ ys) p = absurd p
pairs_count T (x ∷ xs) [] p = absurd p
pairs_count T (x ∷ xs) (y ∷ ys) p = ap suc (pairs_count T xs ys p.1)

each_all : {A : Type 0} (P : ℕ → A → Type 0) (Q : A → Type 0) → ((k : ℕ) (a : A) → P k a → Q a) → (xs : List A)
    → ((k : ℕ) → IfSome (slice_get xs k) (P k)) → All Q xs
each_all P Q step [] f k d lt = absurd (omega arith)
each_all P Q step (x ∷ xs) f zero d lt = step 0 x (f 0)
each_all P Q step (x ∷ xs) f (suc k) d lt =
    each_all (λ n. P (suc n)) Q (λ n. step (suc n)) xs (λ n. f (suc n)) k d (omega arith)

each_on : {A : Type 0} (P Q : A → Type 0) (o : Option A) → ((x : A) → P x → Q x) → IfSome o P → IfSome o Q
each_on P Q None f h = tt
each_on P Q (Some x) f h = f x h

same_some : (m n : ℕ) → Some m ≡ Some n → m ≡ n
same_some m n e = cc

-- parts of one queue, at one place
abbrev SameParts : {R : Type 0} → QueueLane R → QueueLane R → Type 0
SameParts l m = (lane_bay m ≡ lane_bay l) × (lane_home m ≡ lane_home l)

parts_of : {R : Type 0} (S : Type 0) (ls : List (QueueLane R)) → queued_parts {S = S} (map queue_lane ls) ≡ ls
parts_of S [] = refl
parts_of S (l ∷ ls) = ap (λ z. l ∷ z) (parts_of S ls)

module _ {S R : Type 0} where
  -- lanes of a queue stay such
  after_queued : (queue : List (QueueLane R)) (after : List (AnyLane S R)) → AllPairs SameAny (map queue_lane queue) after
      → (ls : List (QueueLane R)) × (after ≡ map queue_lane ls) × AllPairs SameParts queue ls
  after_queued [] [] p = ([], refl, tt)
  after_queued [] (x ∷ after) p = absurd p
  after_queued (l ∷ queue) [] p = absurd p
  after_queued (l ∷ queue) (Off failed ∷ after) p = let q = p.0.queued in absurd cc
  after_queued (l ∷ queue) (Own lane ∷ after) p = let q = p.0.queued in absurd cc
  after_queued (l ∷ queue) (Queue m ∷ after) p =
      let r = after_queued queue after p.1 in
      (m ∷ r.0, ap (λ z. Queue m ∷ z) r.1, ((same_some _ _ p.0.bay, p.0.home), r.2))

module _ {S R : Type 0} (s : sinks.Ghosts S) (one : OneHome R) (parts : (l : QueueLane R) → LaneParts l) (capacity : ℕ) (allots : List ℕ)
    (outlet : QueueOutlet R) (capacity_is : outlet_capacity outlet ≡ capacity) (allots_are : outlet_allotments outlet ≡ allots) where
  abbrev AtPlace : ℕ → QueueLane R → Type 0
  AtPlace bay l = (lane_bay l ≡ bay) × (lane_home l ≡ outlet_home outlet)

  told_allotment : (l : QueueLane R) (bay : ℕ) → AtPlace bay l → lane_allotment l ≡ get_or allots bay 0
  told_allotment l bay h =
      let lots : lane_allotments l ≡ allots = (one.outlet l outlet h.1).1 ∙ allots_are in
      (parts l).allotted ∙ (ap (λ z. get_or z (lane_bay l) 0) lots ∙ ap (λ z. get_or allots z 0) h.0)

  told_crowd : (l : QueueLane R) (bay : ℕ) → AtPlace bay l → CanBeFull l
      → capacity + get_or allots bay 0 ≤ length (lane_accepted l) + sum allots
  told_crowd l bay h c =
      let same = one.outlet l outlet h.1 in
      let lots : lane_allotments l ≡ allots = same.1 ∙ allots_are in
      let most : lane_capacity l ≡ capacity = same.0 ∙ capacity_is in
      let own = told_allotment l bay h in
      let all : sum (lane_allotments l) ≡ sum allots = ap sum lots in
      omega (arith, c, most, own, all)

  told_full : (l : QueueLane R) (bay : ℕ) → AtPlace bay l → (length (lane_accepted l) ≡ lane_allotment l) ⊎ CanBeFull l
      → (length (lane_accepted l) ≡ get_or allots bay 0) ⊎ (capacity + get_or allots bay 0 ≤ length (lane_accepted l) + sum allots)
  told_full l bay h f = elim f [ inl e ↦ inl (e ∙ told_allotment l bay h) | inr c ↦ inr (told_crowd l bay h c) ]

  one_told : (l : QueueLane R) (bay : ℕ) → AtPlace bay l → ToldQueued s capacity allots bay (lane_accepted l) (queue_lane l)
  one_told l bay h = record {
    accepted_is = refl;
    own = l;
    lane_is = refl;
    fulls_are = refl;
    beyond = λ lt. (parts l).beyond lt ∙ told_allotment l bay h;
    refused = λ lt. told_crowd l bay h ((parts l).refused lt);
    full = λ lt. told_full l bay h ((parts l).full lt);
  }

  told_each : (ls : List (QueueLane R)) (i bay : ℕ) → IfSome (slice_get ls i) (AtPlace bay)
      → IfSome (slice_get (map queue_lane ls) i) (ToldQueued s capacity allots bay (get_or (map lane_accepted ls) i []))
  told_each [] i bay h = tt
  told_each (l ∷ ls) zero bay h = one_told l bay h
  told_each (l ∷ ls) (suc i) bay h = told_each ls i bay h

module _ {S R K : Type 0} (s : sinks.Ghosts S) (clock : clocks.Ghosts K) (one : OneHome R) (parts : (l : QueueLane R) → LaneParts l) where
  stay_one : (capacity : ℕ) (allots : List ℕ) (limits : Limits) (sink : SinkTells) (before after : List (AnyLane S R)) (drain : Option (QueueDrain S R K)) (d : QueueDrain S R K)
      (made : AreQueued s clock capacity allots limits sink before drain) → AllPairs SameAny before after → RanDrain s clock made.drained d
      → StayTogether s clock capacity allots limits sink after (Some d)
  stay_one capacity allots limits sink before after drain d made p r =
      let outlet = made.outlet in
      let new = made.new in
      let q = after_queued made.queue after (subst (λ z. AllPairs SameAny z after) made.lanes_are p) in
      let ls = q.0 in
      let home : outlet_home (drain_outlet d) ≡ outlet_home outlet = r.same.home ∙ made.home in
      let lots : outlet_allotments (drain_outlet d) ≡ outlet_allotments outlet = (one.outlets (drain_outlet d) outlet home).1 in
      let at : (k : ℕ) → IfSome (slice_get ls k) (λ l. (lane_bay l ≡ k) × (lane_home l ≡ outlet_home outlet)) =
      pairs_each SameParts (IsNewLane outlet) (λ k l. (lane_bay l ≡ k) × (lane_home l ≡ outlet_home outlet))
      (λ k a b n t. (t.0 ∙ n.bay_is, t.1 ∙ n.home_is)) made.queue ls q.2 new.lanes_are in
      let same : queued_parts after ≡ ls = ap queued_parts q.1 ∙ parts_of S ls in
      let queue : AreOneQueue ls (drain_outlet d) = record {
        count = pairs_count SameParts made.queue ls q.2 ∙ (new.count ∙ (ap length (sym new.allotments_are) ∙ ap length (sym lots)));
        home = each_all (λ k l. (lane_bay l ≡ k) × (lane_home l ≡ outlet_home outlet)) (λ l. lane_home l ≡ outlet_home (drain_outlet d))
            (λ k l h. h.1 ∙ sym home) ls at;
        order = λ k. each_on (λ l. (lane_bay l ≡ k) × (lane_home l ≡ outlet_home outlet)) (λ l. lane_bay l ≡ k) (slice_get ls k) (λ l h. h.0) (at k);
      } in
      record {
        can_end = (subst (λ z. AreOneQueue z (drain_outlet d)) (sym same) queue, r.accounts made.accounts);
        limits_are = r.same.limits ∙ made.limits_are;
        sent = subst (λ (z : SinkTells). KeepsSent z (drain_state s clock d).sink) made.sink_is r.sent;
        told = λ bay.
            subst (λ z. IfSome (slice_get after bay) (ToldQueued s capacity allots bay (get_or (map lane_accepted z) bay []))) (sym same)
            (subst (λ z. IfSome (slice_get z bay) (ToldQueued s capacity allots bay (get_or (map lane_accepted ls) bay []))) (sym q.1)
            (told_each s one parts capacity allots outlet new.capacity_is new.allotments_are ls bay bay (at bay)));
      }

  stay_some : (capacity : ℕ) (allots : List ℕ) (limits : Limits) (sink : SinkTells) (before after : List (AnyLane S R)) (drain ran : Option (QueueDrain S R K))
      (made : AreQueued s clock capacity allots limits sink before drain) → AllPairs SameAny before after → IfBoth (RanDrain s clock) (Some made.drained) ran
      → StayTogether s clock capacity allots limits sink after ran
  stay_some capacity allots limits sink before after drain None made p r = absurd r
  stay_some capacity allots limits sink before after drain (Some d) made p r = stay_one capacity allots limits sink before after drain d made p r

  pub stay_together : (capacity : ℕ) (allots : List ℕ) (limits : Limits) (sink : SinkTells) (before after : List (AnyLane S R)) (drain ran : Option (QueueDrain S R K))
      → AreQueued s clock capacity allots limits sink before drain → AllPairs SameAny before after → IfBoth (RanDrain s clock) drain ran
      → StayTogether s clock capacity allots limits sink after ran
  stay_together capacity allots limits sink before after drain ran made p r =
      stay_some capacity allots limits sink before after drain ran made p (subst (λ z. IfBoth (RanDrain s clock) z ran) made.drain_is r)
