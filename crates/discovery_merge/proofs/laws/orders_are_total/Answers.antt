use Rattle.discovery_merge.proofs.OrderLemmas.{group_order_total, preference_order_total}
use Rattle.discovery_merge.proofs.laws.orders_are_total.Goals as goal

pub returns-clause-groups : goal.returns-clause-groups
returns-clause-groups c = group_order_total

pub returns-clause-versions : goal.returns-clause-versions
returns-clause-versions c = preference_order_total c.versions_are_ordered.ensures.total
