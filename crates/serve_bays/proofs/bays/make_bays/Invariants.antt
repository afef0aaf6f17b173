use Rattle.std.proofs.Common.{◌≡◌, ◌≤◌, ◌++◌, ℕ, length, map, slice_get, IfSome}
use Rattle.std.specs.Prelude.{vec_capacity}
use Rattle.std.specs.Arc.{arc_value}
use Rattle.serve_roles.specs.Doors.{bay_handles}
use Rattle.serve_roles.specs.Ends.{log_lane, hook_lane}
use Rattle.serve_bays.specs.Bays.{IsNewBay, routes_of}
use Rattle.serve_bays.specs.BayCalls.{bays_calls}
use Rattle.truncate_backend.specs.Told.{Joined}
use Rattle.serve_bays.proofs.bays.make_bays.Given as goal

abbrev pub invariant-loop-table : goal.invariant-loop-table
invariant-loop-table g l = record {
  whole : l.fn.routes.items ≡ l.yielded ++ l.table-iterator.rest.items;
  routes : map routes_of l.bays.items ≡ l.yielded;
  count : length l.bays.items ≡ length l.yielded;
  bay : l.bay ≡ length l.yielded;
  room : length l.fn.routes.items ≤ vec_capacity l.bays;
  logs : map log_lane l.bays.items ++ l.log_lanes.rest.items ≡ l.fn.logs.items;
  hooks : map hook_lane l.bays.items ++ l.hook_lanes.rest.items ≡ l.fn.hooks.items;
  faults : (g.P.Plant.tells l.plant).faults ≡ (g.P.Plant.tells l.initial.plant).faults;
  made : Joined (g.P.Plant.tells l.initial.plant).made (bays_calls l.options.listen l.options.connections 0 (length l.yielded)) (g.P.Plant.tells l.plant).made;
  due : (k : ℕ) → length l.yielded ≤ k → (g.P.Plant.tells l.plant).due k ≡ (g.P.Plant.tells l.initial.plant).due k;
  new : (k : ℕ) → IfSome (slice_get l.bays.items k) (λ role.
      IsNewBay (bay_handles g.R.Routes g.P.L.Dial g.P.W.BatchSink g.P.H.BatchSink g.P.K.Clock g.P.Y.Diary g.P.D.Door
      g.P.D.C.Source g.P.D.C.ByteSink g.P.D.C.Conn) (arc_value l.shared.settings) l.shared.boot
      ((g.P.Plant.tells l.initial.plant).due k) k role);
}
