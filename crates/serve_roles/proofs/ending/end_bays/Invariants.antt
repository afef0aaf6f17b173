use Rattle.std.proofs.Common.{◌≡◌, ◌≤◌, ◌++◌, length, map}
use Rattle.std.specs.Prelude.{vec_capacity}
use Rattle.serve_roles.specs.Ends.{bay_end, log_lane, hook_lane}
use Rattle.serve_roles.proofs.ending.end_bays.Given as goal

abbrev pub invariant-loop-role : goal.invariant-loop-role
invariant-loop-role g l = record {
  whole : l.fn.bays.items ≡ l.yielded ++ l.role-iterator.rest.items;
  ends : l.ends.items ≡ map bay_end l.yielded;
  logs : l.logs.items ≡ map log_lane l.yielded;
  hooks : l.hooks.items ≡ map hook_lane l.yielded;
  ends_room : length l.fn.bays.items ≤ vec_capacity l.ends;
  logs_room : length l.fn.bays.items ≤ vec_capacity l.logs;
  hooks_room : length l.fn.bays.items ≤ vec_capacity l.hooks;
}
