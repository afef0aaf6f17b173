use Rattle.std.proofs.Common.{◌≡◌, ◌++◌, map, take}
use Rattle.resources_command.specs.Order.{one_of}
use Rattle.resources_command.proofs.group_versions.push_versions.Given as goal

-- the versions so far were pushed
abbrev pub invariant-loop-version : goal.invariant-loop-version
invariant-loop-version l = l.order.items ≡ l.fn.order.items ++ map (one_of l.group.name) (take l.version-index l.version-items)
