use Rattle.std.proofs.Common.{◌≡◌, drop}
use Rattle.serde_json.specs.View.{items_view}
use Rattle.write_bodies.specs.Deletion.{are_all}
use Rattle.write_bodies.proofs.deletion.are_all.Given as goal

-- all that was passed are so
abbrev pub invariant-loop-item : goal.invariant-loop-item
invariant-loop-item l = are_all (items_view (drop l.item-index l.items.items)) ≡ are_all (items_view l.items.items)
