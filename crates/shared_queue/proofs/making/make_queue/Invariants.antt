use Rattle.std.proofs.Common.{◌≡◌, ℕ, length, slice_get, IfSome}
use Rattle.std.specs.Arc.{arc_value}
use Rattle.crossbeam_queue.specs.Passes.{view, IsPassOf, ruled_capacity}
use Rattle.shared_queue.specs.Lanes.{lane_fulls}
use Rattle.shared_queue.specs.Rule.{maker_at, lane_at}
use Rattle.shared_queue.proofs.making.make_queue.Given as goal

abbrev pub invariant-loop-bay : goal.invariant-loop-bay
invariant-loop-bay g l = record {
  tied : IsPassOf (arc_value l.queue) l.maker;
  outlet_tied : IsPassOf (arc_value l.queue) l.pass;
  capacity : l.capacity ≡ ruled_capacity (arc_value l.queue);
  maker : view l.maker ≡ maker_at l.allots.items l.bay;
  outlet : view l.pass ≡ view l.initial.pass;
  count : length l.lanes.items ≡ l.bay;
  lanes : (k : ℕ) → IfSome (slice_get l.lanes.items k) (λ x. (x.bay ≡ k) × (lane_fulls x ≡ 0) × (x.capacity ≡ l.capacity) × (x.pass.table_id ≡ l.pass.table_id) × (view x.pass ≡ lane_at l.allots.items k));
}
