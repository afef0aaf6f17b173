-- What a bay's role does.
use Rattle.std.specs.Prelude.{◌≡◌}
use Rattle.std.specs.Arc.{arc_value}
use Rattle.serve_roles.specs.Doors.{BayHandles, RanDoor}
use Rattle.serve_roles.specs.declared.bay_role.BayRole.{BayRole}

-- it served at its door, by the same settings
pub record RanBay {R L N W H T K Y D C : Type 0} (h : BayHandles R L N W H K Y D C) (a b : BayRole R L W H T K Y D) : Type 0 where
  pub settings : b.own.settings ≡ a.own.settings
  pub ran : RanDoor h (arc_value a.own.settings) a.own.bay a.door a.counts b.stop b.own.bay b.door b.counts
