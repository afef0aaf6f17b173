use Rattle.std.proofs.Common.{◌≡◌, sym, ap, ◌∙◌}
use Rattle.apiservice_rows.specs.Row.{Row}
use Rattle.apiservice_table.proofs.OrderLemmas.{with_row-ok, with_row-err}
use Rattle.apiservice_table.proofs.rows.put.Goals as goal

pub returns-in-Ok-clause-done : goal.returns-in-Ok-clause-done
returns-in-Ok-clause-done c =
    let key : c.as_str.result.now ≡ c.args.row.name = c.as_str.ensures ∙ ap (λ (r : Row). r.name) c.row.view_is in
    let place = rw (key, c.as_slice.ensures.value) at c.in-Ok.ensures.value in
    sym (with_row-ok c.args.row c.args.rows.now.items c.in-Ok.at (sym place))

pub returns-in_ok-insert-in-Err-clause-done : goal.returns-in_ok-insert-in-Err-clause-done
returns-in_ok-insert-in-Err-clause-done c =
    let key : c.as_str.result.now ≡ c.args.row.name = c.as_str.ensures ∙ ap (λ (r : Row). r.name) c.row.view_is in
    let place = rw (key, c.as_slice.ensures.value) at c.in-Err.ensures.value in
    c.in_ok-insert-in-Err.ensures.items ∙ sym (with_row-err c.args.row c.args.rows.now.items c.in-Err.at (sym place))
