use Rattle.std.proofs.Common.{ap, ◌∙◌}
use Rattle.discovery_merge.specs.Groups.{is_of}
use Rattle.discovery_merge.specs.Lent.{lent_rows}
use Rattle.discovery_merge.specs.Order.{preference_order, sorted}
use Rattle.discovery_merge.proofs.LentLemmas.{filter_lent}
use Rattle.discovery_merge.proofs.order.rows_of.Goals as goal

pub returns : goal.returns
returns c =
    c.in_ok-sort_by_preference.ensures
    ∙ ap (sorted preference_order) (ap lent_rows c.in_ok-found.ensures ∙ filter_lent (is_of c.args.name.now) c.args.rows.now)
