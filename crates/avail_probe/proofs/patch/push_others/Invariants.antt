use Rattle.std.proofs.Common.{◌≡◌, drop}
use Rattle.serde_json.specs.View.{items_view}
use Rattle.avail_probe.specs.Status.{joined, others}
use Rattle.avail_probe.proofs.patch.push_others.Given as goal

-- those that were kept, and those that will be, are all others
abbrev pub invariant-loop-condition : goal.invariant-loop-condition
invariant-loop-condition l =
    joined (items_view l.all.items) (others (items_view (drop l.condition-index l.conditions)))
    ≡ joined (items_view l.fn.all.items) (others (items_view l.conditions))
