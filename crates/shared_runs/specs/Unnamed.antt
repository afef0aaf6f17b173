-- What bays leave, without the name of their history.
use Rattle.route_history.specs.History.{History}
use Rattle.serve_roles.specs.declared.bay_end.BayEnd.{BayEnd}
use Rattle.shared_routes.specs.Shared.{Shared}

-- a bay's routes at its end
abbrev pub routes_of : {L K Y D : Type 0} → BayEnd Shared L K Y D → Shared
routes_of end = end.routes

-- of a bay's routes which history it is, and the entries that were seen
abbrev pub unnamed_end : {L K Y D : Type 0} → BayEnd Shared L K Y D → BayEnd History L K Y D
unnamed_end end = record {
  bay = end.bay;
  boot = end.boot;
  number = end.number;
  log_lines = end.log_lines;
  hook_lines = end.hook_lines;
  counts = end.counts;
  stop = end.stop;
  door = end.door;
  routes = record { home = end.routes.home; entries = end.routes.entries };
  dial = end.dial;
  clock = end.clock;
  diary = end.diary;
}
