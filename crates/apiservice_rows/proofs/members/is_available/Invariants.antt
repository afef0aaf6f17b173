use Rattle.std.proofs.Common.{◌≡◌, drop}
use Rattle.serde_json.specs.View.{items_view}
use Rattle.apiservice_rows.specs.Object.{is_available}
use Rattle.apiservice_rows.proofs.members.is_available.Given as goal

-- none that was passed is of that type
abbrev pub invariant-loop-condition : goal.invariant-loop-condition
invariant-loop-condition l =
    is_available (items_view (drop l.condition-index l.conditions.items)) ≡ is_available (items_view l.conditions.items)
