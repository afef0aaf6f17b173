use Rattle.std.proofs.Common.{◌≡◌, length, All}
use Rattle.front_plants.specs.Unused.{IsUnusedDoor}
use Rattle.rehearse_setting.specs.Sent.{AreSent}
use Rattle.rehearse_setting.proofs.ports.doors.Given as goal

abbrev pub invariant-loop-bay : goal.invariant-loop-bay
invariant-loop-bay l = record {
  count : length l.doors.items ≡ l.bay;
  unused : All IsUnusedDoor l.doors.items;
  sent : AreSent l.plan.start l.plan.count l.plan.bays l.doors.items;
}
