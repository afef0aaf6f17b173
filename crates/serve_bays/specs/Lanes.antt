-- The lanes of all bays for one sink, by the sink's mode.
use Rattle.std.specs.Prelude.{◌≡◌, ℕ, List, map, length, slice_get, Option, None, IfSome, All}
use Rattle.any_lane.specs.declared.lane.AnyLane.{AnyLane}
use Rattle.audit_core.specs.declared.sinks.SinkMode.{SinkMode}
use Rattle.audit_core.specs.declared.sinks.SinkMode.TheVariants.{Off, Batch, Blocking, Strict}
use Rattle.batch_backend.specs.declared.limits.Limits.{Limits}
use Rattle.front_plants.specs.Fresh.{SinkOpens, IsNewSink}
use Rattle.front_plants.specs.declared.call.PlantCall.{PlantCall}
use Rattle.front_ports.specs.declared.clock.Clock as clocks
use Rattle.serve_bays.specs.LaneCalls.{CalledFor}
use Rattle.queue_drain.specs.declared.drain.QueueDrain.{QueueDrain}
use Rattle.sink_lanes.specs.Lanes.{AllOff, AreQueued, own_lane}
use Rattle.truncate_backend.specs.Tries.{SinkTells}
use Rattle.truncate_backend.specs.declared.sink.BatchSink as sinks

-- a new sink of its own for each bay
pub record AreOwn {S R K : Type 0} (s : sinks.Ghosts S) (opens : SinkOpens) (bays : ℕ) (lanes : List (AnyLane S R)) (drain : Option (QueueDrain S R K)) : Type 0 where
  pub own : List S
  pub lanes_are : lanes ≡ map own_lane own
  pub count : length own ≡ bays
  pub new : All (λ (sink : S). IsNewSink opens (s.tells sink)) own
  pub no_drain : drain ≡ None

-- an allotment for each bay, the one that is said of its plant, where one is
pub record AreAllotted (said : ℕ → Option ℕ) (bays : ℕ) (allots : List ℕ) : Type 0 where
  pub count : length allots ≡ bays
  pub fixed : (bay : ℕ) → IfSome (slice_get allots bay) (λ allotment. IfSome (said bay) (λ own. allotment ≡ own))

-- a queue that all bays share, whose lanes have these allotments, and a new sink
pub record AreShared {S R K : Type 0} (s : sinks.Ghosts S) (k : clocks.Ghosts K) (opens : SinkOpens) (bays capacity : ℕ) (allots : List ℕ) (limits : Limits)
    (lanes : List (AnyLane S R)) (drain : Option (QueueDrain S R K)) : Type 0 where
  pub allotted : AreAllotted opens.allots bays allots
  pub sink : SinkTells
  pub new : IsNewSink opens sink
  pub queued : AreQueued s k capacity allots limits sink lanes drain

-- no sink
pub record AreNone {S R K : Type 0} (bays : ℕ) (lanes : List (AnyLane S R)) (drain : Option (QueueDrain S R K)) : Type 0 where
  pub off : AllOff lanes
  pub count : length lanes ≡ bays
  pub no_drain : drain ≡ None

module _ {S R K : Type 0} where
  abbrev pub LanesFor : sinks.Ghosts S → clocks.Ghosts K → SinkOpens → SinkMode → ℕ → ℕ → List ℕ → Limits → List (AnyLane S R) → Option (QueueDrain S R K) → Type 0
  LanesFor s k opens Off bays capacity allots limits lanes drain = AreNone bays lanes drain
  LanesFor s k opens Batch bays capacity allots limits lanes drain = AreShared s k opens bays capacity allots limits lanes drain
  LanesFor s k opens Blocking bays capacity allots limits lanes drain = AreOwn s opens bays lanes drain
  LanesFor s k opens Strict bays capacity allots limits lanes drain = AreOwn s opens bays lanes drain

-- the lanes of a sink, and the calls that were made for them. The allotments of a queue are those that the plant answered
pub record MadeFor {S R K : Type 0} (s : sinks.Ghosts S) (k : clocks.Ghosts K) (opens : SinkOpens) (call : PlantCall) (mode : SinkMode) (bays capacity : ℕ)
    (limits : Limits) (lanes : List (AnyLane S R)) (drain : Option (QueueDrain S R K)) (before after : Option (List PlantCall)) : Type 0 where
  pub allots : List ℕ
  pub called : CalledFor call bays allots mode before after
  pub made : LanesFor s k opens mode bays capacity allots limits lanes drain
