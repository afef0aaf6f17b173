-- What a run has of one of its sinks: of its log, or of its webhook.
use Rattle.std.specs.Prelude.{ℕ, List, []}
use Rattle.any_lane.specs.declared.lane.AnyLane.{AnyLane}
use Rattle.audit_core.specs.declared.settings.Settings.{Settings}
use Rattle.audit_core.specs.declared.sinks.Sink.{Sink}
use Rattle.audit_core.specs.declared.sinks.Sink.TheVariants.{Log, Webhook}
use Rattle.audit_core.specs.declared.sinks.SinkMode.{SinkMode}
use Rattle.audit_core.specs.declared.sinks.SinkMode.TheVariants.{Off, Batch, Blocking, Strict}
use Rattle.batch_backend.specs.declared.limits.Limits.{Limits}
use Rattle.front_plants.specs.Fresh.{Openings, SinkOpens, log_opens, hook_opens}
use Rattle.front_plants.specs.Plants.{PlantTells}
use Rattle.front_ports.specs.declared.clock.Clock as clocks
use Rattle.serve_bays.specs.Served.{SinkServed}
use Rattle.serve_bays.specs.declared.options.RunOptions.{RunOptions}
use Rattle.serve_roles.specs.Doors.{BayHandles}
use Rattle.serve_runs.specs.Served.{RunServed}
use Rattle.serve_runs.specs.declared.ended.Ended.{Ended}
use Rattle.sink_lanes.specs.declared.ending.SinkEnd.{SinkEnd}
use Rattle.truncate_backend.specs.Tries.{Try}
use Rattle.truncate_backend.specs.declared.sink.BatchSink as sinks

-- its type, of those of both
abbrev pub SideSink : Type 0 → Type 0 → Sink → Type 0
SideSink W H Log = W
SideSink W H Webhook = H

-- what it tells
abbrev pub side_sink : {R L N W H K Y D C : Type 0} → BayHandles R L N W H K Y D C → (sink : Sink) → sinks.Ghosts (SideSink W H sink)
side_sink h Log = h.log
side_sink h Webhook = h.hook

-- what is left of it
abbrev pub side_end : {R L W H K Y D : Type 0} → Ended R L W H K Y D → (sink : Sink) → SinkEnd (SideSink W H sink) K
side_end ended Log = ended.log
side_end ended Webhook = ended.hook

module _ {R L N W H K Y D C : Type 0} {h : BayHandles R L N W H K Y D C} {T : Type 0} {set : Settings} {options : RunOptions} {opens : Openings}
    {before after : PlantTells C} {tables : List R} {ended : Ended R L W H K Y D} where
  -- what the plant allotted each bay in its queue
  abbrev pub side_allots : RunServed h T set options opens before after tables ended → Sink → List ℕ
  side_allots served Log = served.log_allots
  side_allots served Webhook = served.hook_allots

-- the tries of the drainer, which only mode batch has
abbrev pub tries_if : {S T K : Type 0} (s : sinks.Ghosts S) (k : clocks.Ghosts K) (opens : SinkOpens) (mode : SinkMode) (bays capacity : ℕ) (allots : List ℕ)
    (limits : Limits) (lanes : List (AnyLane S T)) (end : SinkEnd S K) → SinkServed s k opens mode bays capacity allots limits lanes end → List Try
tries_if s k opens Off bays capacity allots limits lanes end h = []
tries_if s k opens Batch bays capacity allots limits lanes end h = h.tries
tries_if s k opens Blocking bays capacity allots limits lanes end h = []
tries_if s k opens Strict bays capacity allots limits lanes end h = []

module _ {R L N W H K Y D C : Type 0} {h : BayHandles R L N W H K Y D C} {T : Type 0} {set : Settings} {options : RunOptions} {opens : Openings}
    {before after : PlantTells C} {tables : List R} {ended : Ended R L W H K Y D} where
  -- those that the contract of the run speaks of, whether the sink tells them or not
  abbrev pub run_tries : RunServed h T set options opens before after tables ended → Sink → List Try
  run_tries served Log =
      tries_if h.log h.clock (log_opens opens) set.log options.bays options.buffer served.log_allots options.limits served.logs ended.log served.log
  run_tries served Webhook =
      tries_if h.hook h.clock (hook_opens opens options.hook_url) set.hook options.bays options.buffer served.hook_allots options.limits served.hooks ended.hook served.hook
