use Rattle.std.proofs.Common.{◌≡◌, ◌≤◌, ℕ, length, slice_get, IfSome, All}
use Rattle.std.specs.Prelude.{vec_capacity}
use Rattle.shared_queue.specs.declared.making.TheConstants.{MOST_ALLOTTED}
use Rattle.serve_bays.specs.LaneCalls.{allot_calls}
use Rattle.truncate_backend.specs.Told.{Joined}
use Rattle.serve_bays.proofs.lanes.ask_allotments.Given as goal

abbrev pub invariant-loop-bay : goal.invariant-loop-bay
invariant-loop-bay g l = record {
  count : length l.allots.items ≡ l.bay;
  room : l.bays ≤ vec_capacity l.allots;
  most : All (λ n. n ≤ MOST_ALLOTTED) l.allots.items;
  faults : (g.P.Plant.tells l.plant).faults ≡ (g.P.Plant.tells l.initial.plant).faults;
  fixed : (bay : ℕ) → IfSome (slice_get l.allots.items bay) (λ allotment. IfSome (g.P.Plant.opens.allots bay) (λ own. allotment ≡ own));
  made : Joined (g.P.Plant.tells l.initial.plant).made (allot_calls 0 l.allots.items) (g.P.Plant.tells l.plant).made;
  due : (g.P.Plant.tells l.plant).due ≡ (g.P.Plant.tells l.initial.plant).due;
}
