use Rattle.std.proofs.Common.{◌≡◌, []}
use Rattle.role_threads.specs.Lists.{bays_in, logs_in, hooks_in}
use Rattle.role_threads.proofs.role.list_bays.Given as goal

abbrev pub invariant-loop-bay : goal.invariant-loop-bay
invariant-loop-bay g l = record {
  bays : bays_in l.all.items ≡ l.yielded;
  logs : logs_in l.all.items ≡ [];
  hooks : hooks_in l.all.items ≡ [];
}
