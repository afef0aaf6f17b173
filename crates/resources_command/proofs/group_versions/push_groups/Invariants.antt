use Rattle.std.proofs.Common.{◌≡◌, ◌++◌, drop}
use Rattle.resources_command.specs.Order.{all_versions}
use Rattle.resources_command.proofs.group_versions.push_groups.Given as goal

-- what was pushed and what is to come is the whole
abbrev pub invariant-loop-group : goal.invariant-loop-group
invariant-loop-group l = l.order.items ++ all_versions (drop l.group-index l.groups) ≡ l.fn.order.items ++ all_versions l.groups
