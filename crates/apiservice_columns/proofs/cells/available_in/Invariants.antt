use Rattle.std.proofs.Common.{◌≡◌, drop}
use Rattle.serde_json.specs.View.{items_view}
use Rattle.apiservice_columns.specs.Cells.{available_in}
use Rattle.apiservice_columns.proofs.cells.available_in.Given as goal

-- none that was passed is of that type
abbrev pub invariant-loop-condition : goal.invariant-loop-condition
invariant-loop-condition l =
    available_in (items_view (drop l.condition-index l.conditions.items)) ≡ available_in (items_view l.conditions.items)
