-- A queue of one lane is whole when that lane came back.
use Rattle.std.proofs.Common.{◌≡◌, ℕ, zero, suc, ◌<◌, List, [], ◌∷◌, ◌++◌, length, get_or, slice_get, IfSome, sym, ap, ◌∙◌, subst, arith, length-append}
use Rattle.shared_queue.specs.Lanes.{SameLane, lane_home, lane_bay}
use Rattle.shared_queue.specs.Queues.{IsNewQueue, IsNewLane, AreOneQueue, outlet_home, outlet_allotments}
use Rattle.shared_queue.specs.declared.lane.QueueLane.{QueueLane}
use Rattle.shared_queue.specs.declared.outlet.QueueOutlet.{QueueOutlet}

home_one : {R : Type 0} (d : QueueLane R) (o : QueueOutlet R) → lane_home d ≡ outlet_home o → (k : ℕ) (z : QueueLane R) → k < length (d ∷ []) → lane_home (get_or (d ∷ []) k z) ≡ outlet_home o
home_one d o h zero z lt = h
home_one d o h (suc k) z lt = absurd (omega arith)

bay_one : {R : Type 0} (d : QueueLane R) → lane_bay d ≡ 0 → (k : ℕ) → IfSome (slice_get (d ∷ []) k) (λ l. lane_bay l ≡ k)
bay_one d b zero = b
bay_one d b (suc k) = tt

alone : {R : Type 0} (d : QueueLane R) (o : QueueOutlet R) → length (outlet_allotments o) ≡ 1 → lane_home d ≡ outlet_home o → lane_bay d ≡ 0 → AreOneQueue (d ∷ []) o
alone d o n h b = record { count = sym n; home = home_one d o h; order = bay_one d b }

pub one_lane : {R : Type 0} (capacity : ℕ) (allotments : List ℕ) (old rest new : List (QueueLane R)) (a b c d : QueueLane R) (o : QueueOutlet R) → IsNewQueue capacity allotments old o → length allotments ≡ 1 → old ≡ rest ++ a ∷ [] → new ≡ rest ++ d ∷ [] → SameLane a b → SameLane b c → SameLane c d → AreOneQueue new o
one_lane capacity allotments old [] new a b c d o q n was now s t u =
    let first : IsNewLane o 0 a = subst (λ ls. IfSome (slice_get ls 0) (IsNewLane o 0)) was (q.lanes_are 0) in
    let home : lane_home d ≡ outlet_home o = u.home ∙ (t.home ∙ (s.home ∙ first.home_is)) in
    let bay : lane_bay d ≡ 0 = u.bay ∙ (t.bay ∙ (s.bay ∙ first.bay_is)) in
    subst (λ ls. AreOneQueue ls o) (sym now) (alone d o (ap length q.allotments_are ∙ n) home bay)
one_lane capacity allotments old (x ∷ xs) new a b c d o q n was now s t u =
    let l : length old ≡ suc (length (xs ++ a ∷ [])) = ap length was in
    let m = length-append xs (a ∷ []) in
    let k = q.count in
    absurd (omega arith)
