-- A run over one table that all bays share.
use Rattle.std.specs.Prelude.{◌≡◌, Bool, true, List, All, map}
use Rattle.apiservice_rows.specs.Row.{Row}
use Rattle.apiservice_table.specs.declared.routes.Routes as routes
use Rattle.audit_core.specs.declared.settings.Settings.{Settings}
use Rattle.front_plants.specs.Plants.{PlantTells}
use Rattle.logbook.specs.Pages.{Book}
use Rattle.front_plants.specs.Fresh.{Openings}
use Rattle.serve_bays.specs.declared.options.RunOptions.{RunOptions}
use Rattle.route_history.specs.History.{History}
use Rattle.route_history.specs.declared.entry.Entry.{Entry}
use Rattle.serve_roles.specs.Doors.{BayHandles}
use Rattle.serve_runs.specs.Served.{RunServed}
use Rattle.serve_runs.specs.declared.ended.Ended.{Ended}
use Rattle.shared_routes.specs.Makers.{AreMade}
use Rattle.shared_routes.specs.Shared.{Shared, AreNew, own_changes, seen_changes}
use Rattle.shared_runs.specs.Histories.{SawOne}
use Rattle.shared_runs.specs.Unnamed.{routes_of, unnamed_end}

-- what shared routes tell: the rows before any change, the changes that were seen, and those of their own
abbrev pub shared_routes : routes.Ghosts Shared
shared_routes = record {
  opening = λ r. r.opening;
  seen = λ r. seen_changes r;
  own = λ r. own_changes r;
}

-- Of a run: each bay had routes of one history, numbered as the bays are, over these rows, which had seen no change. It served by them as
-- any run does. At its end they are routes of that history still, and what each bay saw is a prefix of one list of entries. Where these
-- were counted, each was made by a bay of the run, and the own changes of each bay are exactly those of its number. What is left has no
-- name of that history
pub record RunShared {L N W H K Y D C : Type 0} (h : BayHandles Shared L N W H K Y D C) (T : Type 0) (set : Settings) (options : RunOptions)
    (opens : Openings) (home : Book) (opening : List Row) (before after : PlantTells C) (left : Ended History L W H K Y D) (counted : Bool) : Type 0 where
  pub tables : List Shared
  pub fresh : AreNew home opening 0 tables
  pub ended : Ended Shared L W H K Y D
  pub run : RunServed h T set options opens before after tables ended
  pub history : List Entry
  pub one : All (SawOne home opening history) ended.bays.items
  pub made : counted ≡ true → AreMade history (map routes_of ended.bays.items)
  pub bays_are : left.bays.items ≡ map unnamed_end ended.bays.items
  pub sinks_are : (left.log ≡ ended.log) × (left.hook ≡ ended.hook)
  pub status_is : left.status ≡ ended.status
