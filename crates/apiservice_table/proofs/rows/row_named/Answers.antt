use Rattle.std.proofs.Common.{sym, ◌∙◌}
use Rattle.apiservice_table.proofs.OrderLemmas.{get_some, row_named-ok, row_named-err}
use Rattle.apiservice_table.proofs.rows.row_named.Goals as goal

pub returns-in-Ok : goal.returns-in-Ok
returns-in-Ok c =
    sym (row_named-ok c.args.name.now c.args.rows.now c.in-Ok.at (sym c.in-Ok.ensures.value)
    ∙ get_some c.args.rows.now c.in-Ok.at c.index-rows-at.result c.in-Ok.ensures.within c.index-rows-at.is)

pub returns-in-Err : goal.returns-in-Err
returns-in-Err c =
    sym (row_named-err c.args.name.now c.args.rows.now c.in-Err.field-0 c.requires (sym c.in-Err.ensures.value))
