use Rattle.std.proofs.Common.{◌≡◌, ◌++◌, drop}
use Rattle.serde_json.specs.View.{items_view, members_view}
use Rattle.warned_files.specs.Unread.{items_unread, members_unread}
use Rattle.warned_files.proofs.walk.+walk.Given as goal

-- the places that were found, and those of what is left, are all
abbrev pub invariant-walk_items-loop-i : goal.invariant-walk_items-loop-i
invariant-walk_items-loop-i l =
    l.found.items ++ items_unread l.kind l.at l.i (items_view (drop l.i l.item-items))
    ≡ l.fn.found.items ++ items_unread l.kind l.at 0 (items_view l.item-items)

abbrev pub invariant-walk_members-loop-name : goal.invariant-walk_members-loop-name
invariant-walk_members-loop-name l =
    l.found.items ++ members_unread l.kind l.at (members_view l.name-iterator)
    ≡ l.fn.found.items ++ members_unread l.kind l.at (members_view l.initial.name-iterator)
