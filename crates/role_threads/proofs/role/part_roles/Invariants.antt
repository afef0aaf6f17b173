use Rattle.std.proofs.Common.{◌≡◌, ◌≤◌, ◌++◌, None, length}
use Rattle.std.specs.Prelude.{vec_capacity}
use Rattle.role_threads.specs.Lists.{bays_in, logs_in, hooks_in, last_of}
use Rattle.role_threads.proofs.role.part_roles.Given as goal

abbrev pub invariant-loop-role : goal.invariant-loop-role
invariant-loop-role g l = record {
  whole : l.fn.all.items ≡ l.yielded ++ l.role-iterator.rest.items;
  bays : l.bays.items ≡ bays_in l.yielded;
  log : l.log ≡ last_of None (logs_in l.yielded);
  hook : l.hook ≡ last_of None (hooks_in l.yielded);
  room : length l.fn.all.items ≤ vec_capacity l.bays;
}
