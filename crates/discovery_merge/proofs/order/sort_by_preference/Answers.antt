use Rattle.std.proofs.Common.{rules}
use Rattle.discovery_merge.specs.Order.{preference_order}
use Rattle.discovery_merge.proofs.OrderLemmas.{preference_order_total}
use Rattle.discovery_merge.proofs.SortLemmas.{sorted_by_calls}
use Rattle.discovery_merge.proofs.order.sort_by_preference.Goals as goal

pub returns : goal.returns
returns c =
    sorted_by_calls preference_order (preference_order_total c.versions_are_ordered.ensures.total) _ _
    c.in_ok-sort_by.ensures.sorted c.in_ok-sort_by.ensures.stable
    (λ f a r g call. search rules)
