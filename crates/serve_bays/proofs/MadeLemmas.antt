-- The lanes of a sink, with the calls that were made for them.
use Rattle.std.proofs.Common.{◌≡◌, ◌⊎◌, inl, inr, ℕ, List, length, map, Option, None, All, refl, sym, subst}
use Rattle.std.specs.Prelude.{replicate}
use Rattle.any_lane.specs.declared.lane.AnyLane.{AnyLane}
use Rattle.audit_core.specs.declared.sinks.Sink.{Sink}
use Rattle.audit_core.specs.declared.sinks.Sink.TheVariants.{Log, Webhook}
use Rattle.audit_core.specs.declared.sinks.SinkMode.{SinkMode}
use Rattle.audit_core.specs.declared.sinks.SinkMode.TheVariants.{Off, Batch, Blocking, Strict}
use Rattle.batch_backend.specs.declared.limits.Limits.{Limits}
use Rattle.front_plants.specs.Fresh.{Openings, SinkOpens, IsNewSink}
use Rattle.front_plants.specs.declared.call.PlantCall.{PlantCall}
use Rattle.front_ports.specs.declared.clock.Clock as clocks
use Rattle.serve_bays.specs.LaneCalls.{CalledFor}
use Rattle.serve_bays.specs.Lanes.{AreAllotted, AreOwn, LanesFor, MadeFor}
use Rattle.serve_bays.specs.Sides.{side_opens}
use Rattle.serve_bays.specs.declared.options.RunOptions.{RunOptions}
use Rattle.serve_bays.proofs.CallLemmas.{called_none, called_own}
use Rattle.queue_drain.specs.declared.drain.QueueDrain.{QueueDrain}
use Rattle.sink_lanes.specs.Lanes.{AllOff, AreQueued, own_lane}
use Rattle.truncate_backend.specs.Told.{Joined}
use Rattle.truncate_backend.specs.Tries.{SinkTells}
use Rattle.truncate_backend.specs.declared.sink.BatchSink as sinks

-- a bay is allotted as much for either sink
pub same_allots : (opens : Openings) (options : RunOptions) (sink : Sink) → (side_opens opens options sink).allots ≡ opens.allots
same_allots opens options Log = refl
same_allots opens options Webhook = refl

module _ {S R K : Type 0} (s : sinks.Ghosts S) (clock : clocks.Ghosts K) (opens : SinkOpens) (call : PlantCall) (mode : SinkMode) (bays capacity : ℕ)
    (limits : Limits) (lanes : List (AnyLane S R)) (drain : Option (QueueDrain S R K)) where
  pub made_none : (a : Option (List PlantCall)) → mode ≡ Off → AllOff lanes × (length lanes ≡ bays) → drain ≡ None
      → MadeFor s clock opens call mode bays capacity limits lanes drain a a
  made_none a e h d = record {
    allots = replicate bays 0;
    called = called_none call bays mode a e;
    made = subst (λ m. LanesFor s clock opens m bays capacity (replicate bays 0) limits lanes drain) (sym e)
        (record { off = h.0; count = h.1; no_drain = d });
  }

  pub made_batch : (allots : List ℕ) (sink : SinkTells) (a b : Option (List PlantCall)) → mode ≡ Batch → CalledFor call bays allots mode a b
      → AreAllotted opens.allots bays allots → IsNewSink opens sink → AreQueued s clock capacity allots limits sink lanes drain
      → MadeFor s clock opens call mode bays capacity limits lanes drain a b
  made_batch allots sink a b e c h n q = record {
    allots = allots;
    called = c;
    made = subst (λ m. LanesFor s clock opens m bays capacity allots limits lanes drain) (sym e)
        (record { allotted = h; sink = sink; new = n; queued = q });
  }

  own_made : (own : List S) → lanes ≡ map own_lane own → length own ≡ bays → All (λ (sink : S). IsNewSink opens (s.tells sink)) own → drain ≡ None
      → AreOwn s opens bays lanes drain
  own_made own l n h d = record { own = own; lanes_are = l; count = n; new = h; no_drain = d }

  pub made_own : (own : List S) (a b : Option (List PlantCall)) → (mode ≡ Blocking) ⊎ (mode ≡ Strict) → lanes ≡ map own_lane own → length own ≡ bays
      → All (λ (sink : S). IsNewSink opens (s.tells sink)) own → drain ≡ None → Joined a (replicate bays call) b
      → MadeFor s clock opens call mode bays capacity limits lanes drain a b
  made_own own a b (inl e) l n h d p = record {
    allots = replicate bays 0;
    called = called_own call bays mode a b (inl e) p;
    made = subst (λ m. LanesFor s clock opens m bays capacity (replicate bays 0) limits lanes drain) (sym e) (own_made own l n h d);
  }
  made_own own a b (inr e) l n h d p = record {
    allots = replicate bays 0;
    called = called_own call bays mode a b (inr e) p;
    made = subst (λ m. LanesFor s clock opens m bays capacity (replicate bays 0) limits lanes drain) (sym e) (own_made own l n h d);
  }
