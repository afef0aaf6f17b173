-- Which bays may serve.
use Rattle.std.specs.Prelude.{◌≡◌, ◌≤◌, ◌*◌, ℕ, true}
use Rattle.std.specs.Option.{ForSome}
use Rattle.any_lane.specs.Lanes.{any_bay, any_queued}
use Rattle.any_lane.specs.declared.lane.AnyLane.{AnyLane}
use Rattle.audit_core.specs.Offers.{is_on}
use Rattle.audit_core.specs.declared.settings.Settings.{Settings}
use Rattle.audit_core.specs.declared.sinks.SinkMode.{SinkMode}
use Rattle.event_offers.specs.Lanes.{is_batch}
use Rattle.front_base.specs.declared.audit_id.TheConstants.{MOST_REQUESTS}
use Rattle.front_base.specs.declared.line.TheConstants.{MOST_LINE_BYTES}
use Rattle.session_core.specs.declared.bay.Bay.{Bay}

-- the lane of a sink that is on takes lines of this bay, and queues them exactly in batch mode
abbrev pub TakesLines : {S T : Type 0} → ℕ → SinkMode → AnyLane S T → Type 0
TakesLines bay mode lane =
    is_on mode ≡ true → ForSome (any_bay lane) (λ b. bay ≡ b) × (any_queued lane ≡ is_batch mode)

-- what `session_core` asks of a bay, whatever its sinks tell
pub record CanServe {R L W H T K Y : Type 0} (set : Settings) (bay : Bay R L (AnyLane W T) (AnyLane H T) K Y) : Type 0 where
  pub max : set.max_event ≤ MOST_LINE_BYTES
  pub log : TakesLines bay.lanes.bay set.log bay.lanes.log
  pub hook : TakesLines bay.lanes.bay set.hook bay.lanes.hook
  pub few : bay.number ≤ MOST_REQUESTS
  pub log_lines : bay.lanes.log_lines ≤ 3 * bay.number
  pub hook_lines : bay.lanes.hook_lines ≤ 3 * bay.number
