-- Which calls a plant had for the lanes of a sink.
use Rattle.std.specs.Prelude.{◌≡◌, ℕ, suc, List, [], ◌∷◌, ◌++◌, length, replicate, Option}
use Rattle.audit_core.specs.declared.sinks.SinkMode.{SinkMode}
use Rattle.audit_core.specs.declared.sinks.SinkMode.TheVariants.{Off, Batch, Blocking, Strict}
use Rattle.front_plants.specs.declared.call.PlantCall.{PlantCall}
use Rattle.front_plants.specs.declared.call.PlantCall.TheVariants.{Allot, Clock}
use Rattle.truncate_backend.specs.Told.{Joined}

-- the allotments of bays from this one on, with what was answered
abbrev pub allot_calls : ℕ → List ℕ → List PlantCall
allot_calls bay [] = []
allot_calls bay (allot ∷ allots) = Allot bay allot ∷ allot_calls (suc bay) allots

-- none for a sink that is off; in batch mode the allotments of all bays, the sink, and the clock of its drainer; in the other modes
-- the sink of each bay. The call that opens the sink is given
abbrev pub sink_calls : PlantCall → ℕ → List ℕ → SinkMode → List PlantCall
sink_calls opens bays allots Off = []
sink_calls opens bays allots Batch = allot_calls 0 allots ++ opens ∷ Clock ∷ []
sink_calls opens bays allots Blocking = replicate bays opens
sink_calls opens bays allots Strict = replicate bays opens

-- these calls were made, with these allotments as answers in batch mode, and no other
pub record CalledFor (opens : PlantCall) (bays : ℕ) (allots : List ℕ) (mode : SinkMode) (before after : Option (List PlantCall)) : Type 0 where
  pub count : length allots ≡ bays
  pub made : Joined before (sink_calls opens bays allots mode) after

-- some of these calls, from the first one on, were made, and no other
pub record CallsPart (calls : List PlantCall) (before after : Option (List PlantCall)) : Type 0 where
  pub front : List PlantCall
  pub rest : List PlantCall
  pub is : calls ≡ front ++ rest
  pub made : Joined before front after

-- the same of the calls for the lanes of a sink
pub record CalledInPart (opens : PlantCall) (bays : ℕ) (mode : SinkMode) (before after : Option (List PlantCall)) : Type 0 where
  pub allots : List ℕ
  pub count : length allots ≡ bays
  pub part : CallsPart (sink_calls opens bays allots mode) before after
