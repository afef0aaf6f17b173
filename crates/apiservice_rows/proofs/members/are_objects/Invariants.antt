use Rattle.std.proofs.Common.{◌≡◌, drop}
use Rattle.serde_json.specs.View.{items_view}
use Rattle.apiservice_rows.specs.Object.{are_objects}
use Rattle.apiservice_rows.proofs.members.are_objects.Given as goal

-- all that was passed are objects
abbrev pub invariant-loop-item : goal.invariant-loop-item
invariant-loop-item l = are_objects (items_view (drop l.item-index l.items.items)) ≡ are_objects (items_view l.items.items)
