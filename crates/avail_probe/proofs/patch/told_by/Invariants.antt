use Rattle.std.proofs.Common.{◌≡◌, drop}
use Rattle.serde_json.specs.View.{items_view}
use Rattle.avail_probe.specs.Status.{told_by}
use Rattle.avail_probe.proofs.patch.told_by.Given as goal

-- none that was passed is of that type
abbrev pub invariant-loop-condition : goal.invariant-loop-condition
invariant-loop-condition l = told_by (items_view (drop l.condition-index l.conditions)) ≡ told_by (items_view l.conditions)
