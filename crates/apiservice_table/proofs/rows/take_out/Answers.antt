use Rattle.std.proofs.Common.{sym, ◌∙◌}
use Rattle.apiservice_table.proofs.OrderLemmas.{without_row-ok, without_row-err}
use Rattle.apiservice_table.proofs.rows.take_out.Goals as goal

pub returns-in-Ok : goal.returns-in-Ok
returns-in-Ok c =
    let place = rw c.as_slice.ensures.value at c.in-Ok.ensures.value in
    c.remove.ensures.items ∙ sym (without_row-ok c.args.name.now c.args.rows.now.items c.in-Ok.at (sym place))

pub returns-in-Err : goal.returns-in-Err
returns-in-Err c =
    let place = rw c.as_slice.ensures.value at c.in-Err.ensures.value in
    sym (without_row-err c.args.name.now c.args.rows.now.items c.in-Err.field-0 c.requires (sym place))
