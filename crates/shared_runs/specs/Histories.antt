-- What bays saw of one history.
use Rattle.std.specs.Prelude.{◌≡◌, List}
use mathlib.Core.List.{IsPrefix}
use Rattle.apiservice_rows.specs.Row.{Row}
use Rattle.logbook.specs.Pages.{Book}
use Rattle.route_history.specs.declared.entry.Entry.{Entry}
use Rattle.serve_roles.specs.declared.bay_end.BayEnd.{BayEnd}
use Rattle.shared_routes.specs.Makers.{IsWithin}
use Rattle.shared_routes.specs.Shared.{Shared}

-- Of a bay's end: its routes are those of this history, over these rows, and what it saw is a prefix of these entries
pub record SawOne {L K Y D : Type 0} (home : Book) (opening : List Row) (history : List Entry) (end : BayEnd Shared L K Y D) : Type 0 where
  pub home_is : end.routes.home ≡ home
  pub opening_is : end.routes.opening ≡ opening
  pub seen : IsPrefix end.routes.entries history

-- the same, and its own places hold entries of its bay
pub record SawWhole {L K Y D : Type 0} (home : Book) (opening : List Row) (history : List Entry) (end : BayEnd Shared L K Y D) : Type 0 where
  pub saw : SawOne home opening history end
  pub within : IsWithin history end.routes
