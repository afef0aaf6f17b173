use Rattle.resources_command.proofs.OrderLemmas.{last_group, next_group}
use Rattle.resources_command.proofs.group_versions.push_groups.Goals as goal

pub loop-group-preserved : goal.loop-group-preserved
loop-group-preserved c =
    next_group c.loop-group.order.items c.push_versions.new.order.items _ c.args.groups.now c.loop-group.group-index c.group-item.result
    c.loop-group-test.true c.group-item.is c.in_ok-push_versions.ensures c.loop-group.invariant

pub returns : goal.returns
returns c = last_group c.loop-group.order.items _ c.args.groups.now c.loop-group.group-index c.loop-group-test.false c.loop-group.invariant
