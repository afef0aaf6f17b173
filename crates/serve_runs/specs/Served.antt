-- A whole run: what each bay did, and what became of what it offered.
use Rattle.std.specs.Prelude.{◌≡◌, ℕ, List, [], length, slice_get, Option, Some, None, IfSome}
use Rattle.any_lane.specs.Lanes.{any_lane}
use Rattle.any_lane.specs.declared.lane.AnyLane.{AnyLane}
use Rattle.audit_core.specs.declared.settings.Settings.{Settings}
use Rattle.bay_laws.specs.Whole.{TellsEach, TellsAll}
use Rattle.bay_runs.specs.Counts.{no_ends}
use Rattle.bay_runs.specs.Runs.{DoorState, Runs, door_state, ends_of, exchanges_of}
use Rattle.event_offers.specs.Lanes.{lane_state}
use Rattle.front_plants.specs.Fresh.{IsNewClock, IsNewDial, IsNewDoor, IsNewSink, Openings, SinkOpens, log_opens, hook_opens}
use Rattle.front_plants.specs.Plants.{PlantTells}
use Rattle.serve_bays.specs.Served.{SinkServed}
use Rattle.serve_bays.specs.declared.options.RunOptions.{RunOptions}
use Rattle.serve_roles.specs.Doors.{BayHandles, tells_of}
use Rattle.serve_roles.specs.declared.bay_end.BayEnd.{BayEnd}
use Rattle.serve_runs.specs.Made.{RunCalls}
use Rattle.serve_runs.specs.Status.{status_of, stops_of}
use Rattle.serve_runs.specs.declared.ended.Ended.{Ended}
use Rattle.session_core.specs.Bays.{BayState}
use Rattle.session_core.specs.declared.exchange.Exchange.{Exchange}
use Rattle.truncate_backend.specs.Lanes.{LaneTells}

-- a lane to which nothing was offered, and whose own sink, if it has one, is new
pub record IsUnoffered (opens : SinkOpens) (tells : LaneTells) : Type 0 where
  pub none_accepted : IfSome tells.accepted (λ lines. lines ≡ [])
  pub none_tried : IfSome tells.tried (λ lines. lines ≡ [])
  pub no_full : tells.fulls ≡ 0
  pub no_fault : tells.faults ≡ 0
  pub new : IfSome tells.sink (IsNewSink opens)

-- a bay that served nothing yet, and its door
pub record Opens {C : Type 0} (log hook : SinkOpens) (boot : ℕ) (due : Option (List C)) (bay : ℕ) (m : BayState) (d : DoorState C) : Type 0 where
  pub boot_is : m.boot ≡ boot
  pub number : m.number ≡ 0
  pub bay_is : m.lanes.bay ≡ bay
  pub lines : (m.lanes.log.lines ≡ 0) × (m.lanes.hook.lines ≡ 0)
  pub lanes : IsUnoffered log m.lanes.log.tells × IsUnoffered hook m.lanes.hook.tells
  pub dial : IsNewDial m.dial.calls m.dial.faults m.dial.link_faults
  pub clock : IsNewClock m.given m.last
  pub diary : IfSome m.notes (λ notes. notes ≡ [])
  pub door : IsNewDoor d.given d.closes d.faults
  pub due_is : d.left ≡ due

-- it sees the table that these routes see
pub record Sees {R L N W H K Y D C : Type 0} (h : BayHandles R L N W H K Y D C) (routes : R) (m : BayState) : Type 0 where
  pub opening : m.opening ≡ h.routes.opening routes
  pub seen : m.seen ≡ h.routes.seen routes
  pub own : m.own ≡ h.routes.own routes

-- Of a bay: from its beginning, with the routes that it was given, it served the connections that were due to it, one after another, and the
-- exchanges of these are all that it noted and offered. What it leaves is what it told at its end, with its lanes
pub record BayServed {R L N W H T K Y D C : Type 0} (h : BayHandles R L N W H K Y D C) (set : Settings) (log_new hook_new : SinkOpens) (boot : ℕ) (due : ℕ → Option (List C))
    (tables : List R) (logs : List (AnyLane W T)) (hooks : List (AnyLane H T)) (bay : ℕ) (end : BayEnd R L K Y D) : Type 0 where
  pub m : BayState
  pub d : DoorState C
  pub opens : Opens log_new hook_new boot (due bay) bay m d
  pub table : R
  pub table_is : slice_get tables bay ≡ Some table
  pub sees : Sees h table m
  pub log : AnyLane W T
  pub hook : AnyLane H T
  pub log_is : slice_get logs bay ≡ Some log
  pub hook_is : slice_get hooks bay ≡ Some hook
  pub n : BayState
  pub ends : n ≡ record {
    boot = end.boot;
    number = end.number;
    opening = h.routes.opening end.routes;
    seen = h.routes.seen end.routes;
    own = h.routes.own end.routes;
    dial = record { calls = h.dial.calls end.dial; faults = h.dial.faults end.dial; link_faults = h.dial.link_faults end.dial };
    lanes = record {
      bay = end.bay;
      log = lane_state (any_lane h.log) log end.log_lines;
      hook = lane_state (any_lane h.hook) hook end.hook_lines;
    };
    last = h.clock.last end.clock;
    given = h.clock.given end.clock;
    notes = h.diary.notes end.diary;
  }
  pub runs : Runs (tells_of h) set m d end.stop n (door_state h.door end.door) no_ends end.counts
  pub each : TellsEach set m runs.all n
  pub told : TellsAll set m n (ends_of runs.all) (exchanges_of runs.all)

-- Of a run: it had these calls of its plant and no other, none of which failed; what each bay did; what became of all lines that
-- bays offered for each sink; and its status is told by why bays stopped
pub record RunServed {R L N W H K Y D C : Type 0} (h : BayHandles R L N W H K Y D C) (T : Type 0) (set : Settings) (options : RunOptions)
    (opens : Openings) (before after : PlantTells C) (tables : List R) (ended : Ended R L W H K Y D) : Type 0 where
  pub boot : ℕ
  -- what the plant allotted each bay in the queue of a sink in batch mode
  pub log_allots : List ℕ
  pub hook_allots : List ℕ
  pub called : RunCalls set options boot log_allots hook_allots before.made after.made
  pub faults : after.faults ≡ before.faults
  pub logs : List (AnyLane W T)
  pub hooks : List (AnyLane H T)
  pub count : length ended.bays.items ≡ options.bays
  pub each : (bay : ℕ) → IfSome (slice_get ended.bays.items bay) (BayServed h set (log_opens opens) (hook_opens opens options.hook_url) boot before.due tables logs hooks bay)
  pub log : SinkServed h.log h.clock (log_opens opens) set.log options.bays options.buffer log_allots options.limits logs ended.log
  pub hook : SinkServed h.hook h.clock (hook_opens opens options.hook_url) set.hook options.bays options.buffer hook_allots options.limits hooks ended.hook
  pub status_is : ended.status ≡ status_of (stops_of ended.bays.items)

-- ---- the exchanges of a run

module _ {R L N W H T K Y D C : Type 0} (h : BayHandles R L N W H K Y D C) (set : Settings) (log_new hook_new : SinkOpens) (boot : ℕ) (due : ℕ → Option (List C))
    (tables : List R) (logs : List (AnyLane W T)) (hooks : List (AnyLane H T)) where
  -- those of a bay's connections, in order; none where there is no such bay
  abbrev pub exchanges_if : (bay : ℕ) (end : Option (BayEnd R L K Y D)) → IfSome end (BayServed h set log_new hook_new boot due tables logs hooks bay)
      → List Exchange
  exchanges_if bay None b = []
  exchanges_if bay (Some end) b = exchanges_of b.runs.all

module _ {R L N W H K Y D C : Type 0} {h : BayHandles R L N W H K Y D C} {T : Type 0} {set : Settings} {options : RunOptions} {opens : Openings}
    {before after : PlantTells C} {tables : List R} {ended : Ended R L W H K Y D} where
  -- those of each bay
  abbrev pub run_exchanges : RunServed h T set options opens before after tables ended → ℕ → List Exchange
  run_exchanges served bay =
      exchanges_if h set (log_opens opens) (hook_opens opens options.hook_url) served.boot before.due tables served.logs served.hooks bay
      (slice_get ended.bays.items bay) (served.each bay)
