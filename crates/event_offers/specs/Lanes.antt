-- What the lanes of a bay tell.
use Rattle.std.specs.Prelude.{◌≡◌, ℕ, ◌<◌, Bool, true, false, List, Option}
use Rattle.std.specs.Option.{ForSome}
use Rattle.audit_core.specs.Offers.{is_on}
use Rattle.audit_core.specs.declared.settings.Settings.{Settings}
use Rattle.audit_core.specs.declared.sinks.SinkMode.{SinkMode}
use Rattle.audit_core.specs.declared.sinks.SinkMode.TheVariants.{Off, Batch, Blocking, Strict}
use Rattle.event_offers.specs.declared.lanes.Lanes.{Lanes}
use Rattle.truncate_backend.specs.Lanes.{LaneTells}
use Rattle.truncate_backend.specs.declared.lane.Lane as lanes

-- what a lane tells, how many lines its bay offered to it, and what no offer changes
pub record LaneState : Type 0 where
  pub tells : LaneTells
  pub lines : ℕ
  pub bay : Option ℕ
  pub home : List ℕ
  pub queued : Bool

-- a bay's number and its two lanes
pub record LanesState : Type 0 where
  pub bay : ℕ
  pub log : LaneState
  pub hook : LaneState

abbrev pub lane_state : {A : Type 0} → lanes.Ghosts A → A → ℕ → LaneState
lane_state a lane lines = record {
  tells = a.tells lane;
  lines = lines;
  bay = a.bay lane;
  home = a.home lane;
  queued = a.queued lane;
}

abbrev pub lanes_state : {A B : Type 0} → lanes.Ghosts A → lanes.Ghosts B → Lanes A B → LanesState
lanes_state a b own = record {
  bay = own.bay;
  log = lane_state a own.log own.log_lines;
  hook = lane_state b own.hook own.hook_lines;
}

-- ---- which lanes a bay may have

abbrev pub is_batch : SinkMode → Bool
is_batch Off = false
is_batch Batch = true
is_batch Blocking = false
is_batch Strict = false

-- the lane of a sink that is on takes lines of this bay, and queues them exactly in batch mode
abbrev pub IsLaneOf : ℕ → SinkMode → LaneState → Type 0
IsLaneOf bay mode lane =
    is_on mode ≡ true → ForSome lane.bay (λ b. bay ≡ b) × (lane.queued ≡ is_batch mode)

pub record AreLanesOf (set : Settings) (m : LanesState) : Type 0 where
  pub log : IsLaneOf m.bay set.log m.log
  pub hook : IsLaneOf m.bay set.hook m.hook
