use Rattle.std.proofs.Common.{◌≡◌, drop}
use Rattle.serde_json.specs.View.{items_view, members_view}
use Rattle.write_bodies.specs.Directives.{items_have_directive, members_have_directive}
use Rattle.write_bodies.proofs.directives.+directives.Given as goal

-- what was passed has no directive
abbrev pub invariant-items_have_directive-loop-item : goal.invariant-items_have_directive-loop-item
invariant-items_have_directive-loop-item l =
    items_have_directive (items_view (drop l.item-index l.item-items)) ≡ items_have_directive (items_view l.item-items)

abbrev pub invariant-members_have_directive-loop-name : goal.invariant-members_have_directive-loop-name
invariant-members_have_directive-loop-name l =
    members_have_directive (members_view l.name-iterator) ≡ members_have_directive (members_view l.initial.name-iterator)
