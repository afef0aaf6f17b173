use Rattle.std.proofs.Common.{◌≡◌, drop}
use Rattle.serde_json.specs.View.{items_view}
use Rattle.policy_json.specs.Reading.{are_stages}
use Rattle.policy_json.proofs.members.are_stages.Given as goal

-- all that was passed are stages
abbrev pub invariant-loop-item : goal.invariant-loop-item
invariant-loop-item l = are_stages (items_view (drop l.item-index l.items.items)) ≡ are_stages (items_view l.items.items)
