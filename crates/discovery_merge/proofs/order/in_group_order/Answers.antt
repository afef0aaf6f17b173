use Rattle.std.proofs.Common.{ap, ◌∙◌}
use Rattle.discovery_merge.specs.Groups.{is_named}
use Rattle.discovery_merge.specs.Lent.{lent_rows}
use Rattle.discovery_merge.specs.Order.{group_order, sorted}
use Rattle.discovery_merge.proofs.LentLemmas.{filter_lent}
use Rattle.discovery_merge.proofs.order.in_group_order.Goals as goal

pub returns : goal.returns
returns c =
    c.in_ok-sort_by_group.ensures
    ∙ ap (sorted group_order) (ap lent_rows c.in_ok-ordered.ensures ∙ filter_lent is_named c.args.rows.now)
