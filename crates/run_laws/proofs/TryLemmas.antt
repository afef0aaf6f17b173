-- The tries of a drainer, by its sink's mode.
use Rattle.std.proofs.Common.{◌≡◌, ℕ, List}
use Rattle.any_lane.specs.declared.lane.AnyLane.{AnyLane}
use Rattle.audit_core.specs.declared.sinks.SinkMode.{SinkMode}
use Rattle.audit_core.specs.declared.sinks.SinkMode.TheVariants.{Off, Batch, Blocking, Strict}
use Rattle.batch_backend.specs.declared.limits.Limits.{Limits}
use Rattle.front_plants.specs.Fresh.{SinkOpens}
use Rattle.front_ports.specs.declared.clock.Clock as clocks
use Rattle.run_laws.specs.Sides.{tries_if}
use Rattle.serve_bays.specs.Served.{IsDrained, SinkServed}
use Rattle.sink_lanes.specs.declared.ending.SinkEnd.{SinkEnd}
use Rattle.truncate_backend.specs.Tries.{Try}
use Rattle.truncate_backend.specs.declared.sink.BatchSink as sinks

module _ {S T K : Type 0} (s : sinks.Ghosts S) (k : clocks.Ghosts K) (opens : SinkOpens) (bays capacity : ℕ) (allots : List ℕ) (limits : Limits)
    (lanes : List (AnyLane S T)) (end : SinkEnd S K) (Are : List Try → Type 0) where
  -- what holds of the tries of each drainer holds of those of this mode
  pub by_mode : (mode : SinkMode) → mode ≡ Batch → (h : SinkServed s k opens mode bays capacity allots limits lanes end)
      → ((d : IsDrained s k opens bays capacity allots limits lanes end) → Are d.tries)
      → Are (tries_if s k opens mode bays capacity allots limits lanes end h)
  by_mode Off e h make = absurd cc
  by_mode Batch e h make = make h
  by_mode Blocking e h make = absurd cc
  by_mode Strict e h make = absurd cc
