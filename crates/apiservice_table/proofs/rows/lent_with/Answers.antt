use Rattle.std.proofs.Common.{◌≡◌, Bor, map, ap, sym, set, ◌∙◌}
use Rattle.std.specs.List.{insert}
use Rattle.std.proofs.lemmas.List.{map-set}
use Rattle.apiservice_rows.specs.Row.{Row}
use Rattle.apiservice_table.proofs.LentLemmas.{lent-insert}
use Rattle.apiservice_table.proofs.OrderLemmas.{with_row-ok, with_row-err}
use Rattle.apiservice_table.proofs.rows.lent_with.Goals as goal

abbrev now : Bor Row → Row
now r = r.now

pub returns-in-Ok : goal.returns-in-Ok
returns-in-Ok c =
    let row : Row = c.args.row.now in
    let key : c.as_str.result.now ≡ row.name = c.as_str.ensures ∙ ap (λ (r : Row). r.name) c.row.view_is in
    let place = rw key at c.in-Ok.ensures.value in
    map-set now c.in_ok-lent.lent.items c.in-Ok.at c.args.row
    ∙ ap (λ l. set l c.in-Ok.at row) c.in_ok-lent.ensures
    ∙ sym (with_row-ok row c.args.rows.now c.in-Ok.at (sym place))

pub returns-in_ok-insert-in-Err : goal.returns-in_ok-insert-in-Err
returns-in_ok-insert-in-Err c =
    let row : Row = c.args.row.now in
    let key : c.as_str.result.now ≡ row.name = c.as_str.ensures ∙ ap (λ (r : Row). r.name) c.row.view_is in
    let place = rw key at c.in-Err.ensures.value in
    ap (λ l. map now l) c.in_ok-insert-in-Err.ensures.items
    ∙ lent-insert c.in_ok-lent.lent.items c.in-Err.at c.args.row
    ∙ ap (λ l. insert l c.in-Err.at row) c.in_ok-lent.ensures
    ∙ sym (with_row-err row c.args.rows.now c.in-Err.at (sym place))
