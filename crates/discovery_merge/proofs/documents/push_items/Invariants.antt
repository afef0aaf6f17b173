use Rattle.std.proofs.Common.{◌≡◌, ◌++◌, map, take}
use Rattle.std.specs.List.{join_with_byte}
use Rattle.discovery_merge.specs.Documents.{group_item}
use Rattle.discovery_merge.specs.Lent.{lent_view}
use Rattle.discovery_merge.proofs.documents.push_items.Given as goal

abbrev pub invariant-loop-i : goal.invariant-loop-i
invariant-loop-i l = l.out.items ≡ l.fn.out.items
    ++ join_with_byte 44 (map (λ g. group_item (lent_view g)) (take l.i l.groups))
