-- A queue of one lane.
use Rattle.std.proofs.Common.{◌≡◌, ℕ, zero, suc, ◌<◌, List, [], ◌∷◌, ◌++◌, length, get_or, slice_get, IfSome, sym, ap, ◌∙◌, subst}
use Rattle.std.proofs.Common.{arith, length-append}
use Rattle.shared_queue.specs.Lanes.{SameLane, lane_home, lane_bay}
use Rattle.shared_queue.specs.Queues.{IsNewQueue, IsNewLane, AreOneQueue, outlet_home, outlet_allotments}
use Rattle.shared_queue.specs.declared.lane.QueueLane.{QueueLane}
use Rattle.shared_queue.specs.declared.outlet.QueueOutlet.{QueueOutlet}
use Rattle.cases_sinks.specs.Lanes.{IsOneLane}

home_one : {R : Type 0} (d : QueueLane R) (o : QueueOutlet R) → lane_home d ≡ outlet_home o → (k : ℕ) (z : QueueLane R)
    → k < length (d ∷ []) → lane_home (get_or (d ∷ []) k z) ≡ outlet_home o
home_one d o h zero z lt = h
home_one d o h (suc k) z lt = absurd (omega arith)

bay_one : {R : Type 0} (d : QueueLane R) → lane_bay d ≡ 0 → (k : ℕ) → IfSome (slice_get (d ∷ []) k) (λ l. lane_bay l ≡ k)
bay_one d b zero = b
bay_one d b (suc k) = tt

alone : {R : Type 0} (d : QueueLane R) (o : QueueOutlet R) → length (outlet_allotments o) ≡ 1 → lane_home d ≡ outlet_home o
    → lane_bay d ≡ 0 → IsOneLane d o
alone d o n h b = record { bay = b; whole = record { count = sym n; home = home_one d o h; order = bay_one d b } }

-- the lane of a new queue
pub one_new : {R : Type 0} (capacity : ℕ) (allotments : List ℕ) (lanes rest : List (QueueLane R)) (l : QueueLane R)
    (o : QueueOutlet R) → IsNewQueue capacity allotments lanes o → length allotments ≡ 1 → lanes ≡ rest ++ l ∷ [] → IsOneLane l o
one_new capacity allotments lanes [] l o q n e =
    let first : IsNewLane o 0 l = subst (λ ls. IfSome (slice_get ls 0) (IsNewLane o 0)) e (q.lanes_are 0) in
    alone l o (ap length q.allotments_are ∙ n) first.home_is first.bay_is
one_new capacity allotments lanes (x ∷ xs) l o q n e =
    let k : length lanes ≡ suc (length (xs ++ l ∷ [])) = ap length e in
    let m = length-append xs (l ∷ []) in
    let c = q.count in
    absurd (omega arith)

-- the same after offers to it
one_still : {R : Type 0} (l m : QueueLane R) (o : QueueOutlet R) → IsOneLane l o → SameLane l m → IsOneLane m o
one_still l m o i s = alone m o (sym i.whole.count) (s.home ∙ i.whole.home 0 l (omega arith)) (s.bay ∙ i.bay)

pub one_back : {R : Type 0} (l m : QueueLane R) (lanes : List (QueueLane R)) (o : QueueOutlet R) → IsOneLane l o → SameLane l m
    → lanes ≡ m ∷ [] → AreOneQueue lanes o
one_back l m lanes o i s e = subst (λ ls. AreOneQueue ls o) (sym e) (one_still l m o i s).whole
