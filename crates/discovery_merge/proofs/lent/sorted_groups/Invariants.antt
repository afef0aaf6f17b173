use Rattle.std.proofs.Common.{◌≡◌, map, take}
use Rattle.discovery_merge.specs.Lent.{lent_view}
use Rattle.discovery_merge.proofs.lent.sorted_groups.Given as goal

abbrev pub invariant-loop-group : goal.invariant-loop-group
invariant-loop-group l = l.groups.items ≡ map lent_view (take l.group-index l.group-items)
