-- What bays leave.
use Rattle.any_lane.specs.declared.lane.AnyLane.{AnyLane}
use Rattle.serve_roles.specs.declared.bay_end.BayEnd.{BayEnd}
use Rattle.serve_roles.specs.declared.bay_role.BayRole.{BayRole}

module _ {R L W H T K Y D : Type 0} where
  -- what a bay leaves is what it had
  abbrev pub bay_end : BayRole R L W H T K Y D → BayEnd R L K Y D
  bay_end role = record {
    bay = role.own.bay.lanes.bay;
    boot = role.own.bay.boot;
    number = role.own.bay.number;
    log_lines = role.own.bay.lanes.log_lines;
    hook_lines = role.own.bay.lanes.hook_lines;
    counts = role.counts;
    stop = role.stop;
    door = role.door;
    routes = role.own.bay.routes;
    dial = role.own.bay.dial;
    clock = role.own.bay.clock;
    diary = role.own.bay.diary;
  }

  -- its lanes
  abbrev pub log_lane : BayRole R L W H T K Y D → AnyLane W T
  log_lane role = role.own.bay.lanes.log

  abbrev pub hook_lane : BayRole R L W H T K Y D → AnyLane H T
  hook_lane role = role.own.bay.lanes.hook
