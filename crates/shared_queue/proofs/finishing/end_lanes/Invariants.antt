use Rattle.std.proofs.Common.{◌≡◌, ◌-◌, ◌^◌, min, map, sum_by}
use Rattle.crossbeam_queue.specs.Passes.{view, IsPassOf}
use Rattle.shared_queue.specs.Rule.{end_of}
use Rattle.shared_queue.specs.Lanes.{lane_fulls}
use Rattle.shared_queue.proofs.finishing.end_lanes.Given as goal

abbrev pub invariant-loop-lane : goal.invariant-loop-lane
invariant-loop-lane g l = record {
  tied : IsPassOf l.queue l.maker;
  same : l.maker.table_id ≡ l.initial.maker.table_id;
  ended : view l.maker ≡ record (view l.initial.maker) { ended = map (λ x. end_of (view x.pass)) l.yielded };
  fulls : l.fulls ≡ min (sum_by lane_fulls l.yielded) (2 ^ 64 - 1);
}
