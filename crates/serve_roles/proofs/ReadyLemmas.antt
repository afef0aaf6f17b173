-- A bay that may serve, as `session_core` has it.
use Rattle.any_lane.specs.Lanes.{any_lane}
use Rattle.any_lane.specs.declared.lane.AnyLane.{AnyLane}
use Rattle.apiservice_table.specs.declared.routes.Routes as routes
use Rattle.audit_core.specs.declared.settings.Settings.{Settings}
use Rattle.front_ports.specs.declared.clock.Clock as clocks
use Rattle.front_ports.specs.declared.dial.Dial as dials
use Rattle.serve_roles.specs.Ready.{CanServe}
use Rattle.session_core.specs.Bays.{IsReady, bay_state}
use Rattle.session_core.specs.declared.bay.Bay.{Bay}
use Rattle.session_core.specs.declared.diary.Diary as diaries
use Rattle.truncate_backend.specs.declared.sink.BatchSink as sinks

module _ {R L N W H T K Y : Type 0} (r : routes.Ghosts R) (l : dials.Ghosts L N) (w : sinks.Ghosts W) (h : sinks.Ghosts H)
    (k : clocks.Ghosts K) (y : diaries.Ghosts Y) (set : Settings) (bay : Bay R L (AnyLane W T) (AnyLane H T) K Y) where
  pub ready_of : CanServe set bay → IsReady set (bay_state r l (any_lane w) (any_lane h) k y bay)
  ready_of c = record { max = c.max; lanes = record { log = c.log; hook = c.hook }; few = c.few; log = c.log_lines; hook = c.hook_lines }

  pub serve_of : IsReady set (bay_state r l (any_lane w) (any_lane h) k y bay) → CanServe set bay
  serve_of c = record { max = c.max; log = c.lanes.log; hook = c.lanes.hook; few = c.few; log_lines = c.log; hook_lines = c.hook }
