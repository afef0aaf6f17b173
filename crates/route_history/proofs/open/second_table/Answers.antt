use Rattle.std.proofs.Common.{[], List, ap, ◌∙◌}
use Rattle.apiservice_rows.specs.Row.{Row}
use Rattle.apiservice_table.specs.Table.{with_rows}
use Rattle.route_history.proofs.Copies.{stay_ordered}
use Rattle.route_history.proofs.open.second_table.Goals as goal

pub returns : goal.returns
returns c =
    let rows : List Row = c.args.table.now.rows in
    let copied = c.new-rows.ensures ∙ c.in_ok-copy_rows.ensures ∙ c.rows.ensures.rows in
    c.in_ok-second.ensures.rows
    ∙ ap (λ (l : List Row). with_rows l []) copied
    ∙ stay_ordered rows [] c.rows.ensures.order
