use Rattle.std.proofs.Common.{◌≡◌, drop}
use Rattle.serde_json.specs.View.{items_view}
use Rattle.front_base.specs.Stage.{stage_name}
use Rattle.policy_json.specs.Reading.{names_stage}
use Rattle.policy_json.proofs.members.names_stage.Given as goal

-- none that was passed is that stage
abbrev pub invariant-loop-item : goal.invariant-loop-item
invariant-loop-item l =
    names_stage (stage_name l.stage) (items_view (drop l.item-index l.items.items)) ≡ names_stage (stage_name l.stage) (items_view l.items.items)
