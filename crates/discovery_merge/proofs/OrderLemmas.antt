-- The orders of discovery are total, since they are made of total orders.
use Rattle.std.specs.Cmp.{IsTotalOrder}
use Rattle.std.proofs.lemmas.Cmp.{nat_cmp_total, nat_list_cmp_total, on_total, then_total, back_total}
use Rattle.front_base.specs.Version.{version_order}
use Rattle.apiservice_rows.specs.Row.{Row}
use Rattle.discovery_merge.specs.Order.{group_order, preference_order}

pub group_order_total : IsTotalOrder group_order
group_order_total =
    then_total (on_total (λ (r : Row). r.group_priority) (back_total nat_cmp_total))
    (on_total (λ (r : Row). r.name) nat_list_cmp_total)

pub preference_order_total : IsTotalOrder version_order → IsTotalOrder preference_order
preference_order_total total =
    then_total (on_total (λ (r : Row). r.version_priority) (back_total nat_cmp_total))
    (on_total (λ (r : Row). r.version) total)
