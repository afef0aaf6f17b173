-- What a bay does at its door.
use Rattle.any_lane.specs.Lanes.{any_lane}
use Rattle.any_lane.specs.declared.lane.AnyLane.{AnyLane}
use Rattle.audit_core.specs.declared.settings.Settings.{Settings}
use Rattle.apiservice_table.specs.declared.routes.Routes as routes
use Rattle.bay_laws.specs.Whole.{TellsEach, TellsAll}
use Rattle.bay_runs.specs.declared.bay_stop.BayStop.{BayStop}
use Rattle.bay_runs.specs.declared.end_counts.EndCounts.{EndCounts}
use Rattle.bay_runs.specs.Runs.{ConnTells, Runs, conn_tells, door_state, ends_of, exchanges_of}
use Rattle.front_ports.specs.declared.clock.Clock as clocks
use Rattle.front_ports.specs.declared.dial.Dial as dials
use Rattle.front_ports.specs.declared.door.Door as doors
use Rattle.front_ports.specs.declared.stream.ByteSink as byte_sinks
use Rattle.front_ports.specs.declared.stream.Conn as conns
use Rattle.front_ports.specs.declared.stream.Source as sources
use Rattle.session_core.specs.declared.bay.Bay.{Bay}
use Rattle.session_core.specs.Bays.{BayState, bay_state}
use Rattle.session_core.specs.declared.diary.Diary as diaries
use Rattle.truncate_backend.specs.declared.sink.BatchSink as sinks

-- what the parts of a bay tell, and its door with the connections of that
pub record BayHandles (R L N W H K Y D C : Type 0) : Type 1 where
  pub routes : routes.Ghosts R
  pub dial : dials.Ghosts L N
  pub log : sinks.Ghosts W
  pub hook : sinks.Ghosts H
  pub clock : clocks.Ghosts K
  pub diary : diaries.Ghosts Y
  pub door : doors.Ghosts D C
  pub source : sources.Ghosts C
  pub sink : byte_sinks.Ghosts C
  pub conn : conns.Ghosts C

abbrev pub bay_handles : {R L N W H K Y D C : Type 0} → routes.Ghosts R → dials.Ghosts L N → sinks.Ghosts W → sinks.Ghosts H
    → clocks.Ghosts K → diaries.Ghosts Y → doors.Ghosts D C → sources.Ghosts C → byte_sinks.Ghosts C → conns.Ghosts C
    → BayHandles R L N W H K Y D C
bay_handles r l w h k y d s b c = record {
  routes = r;
  dial = l;
  log = w;
  hook = h;
  clock = k;
  diary = y;
  door = d;
  source = s;
  sink = b;
  conn = c;
}

-- what a connection of its door tells
abbrev pub tells_of : {R L N W H K Y D C : Type 0} → BayHandles R L N W H K Y D C → C → ConnTells
tells_of h = conn_tells h.source h.sink h.conn

module _ {R L N W H T K Y D C : Type 0} where
  -- what a bay tells
  abbrev pub state_of : BayHandles R L N W H K Y D C → Bay R L (AnyLane W T) (AnyLane H T) K Y → BayState
  state_of h bay = bay_state h.routes h.dial (any_lane h.log) (any_lane h.hook) h.clock h.diary bay

  -- it served the connections of its door, and the exchanges of these are all that it noted and offered meanwhile
  pub record RanDoor (h : BayHandles R L N W H K Y D C) (set : Settings) (m : Bay R L (AnyLane W T) (AnyLane H T) K Y) (d : D)
      (before : EndCounts) (stop : BayStop) (n : Bay R L (AnyLane W T) (AnyLane H T) K Y) (e : D) (after : EndCounts) : Type 0 where
    pub runs : Runs (tells_of h) set (state_of h m) (door_state h.door d) stop (state_of h n) (door_state h.door e) before after
    pub each : TellsEach set (state_of h m) runs.all (state_of h n)
    pub told : TellsAll set (state_of h m) (state_of h n) (ends_of runs.all) (exchanges_of runs.all)
