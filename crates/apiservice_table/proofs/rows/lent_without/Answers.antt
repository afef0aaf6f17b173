use Rattle.std.proofs.Common.{Bor, map, ap, sym, ◌∙◌}
use Rattle.std.specs.List.{remove}
use Rattle.apiservice_rows.specs.Row.{Row}
use Rattle.apiservice_table.proofs.LentLemmas.{lent-remove}
use Rattle.apiservice_table.proofs.OrderLemmas.{without_row-ok, without_row-err}
use Rattle.apiservice_table.proofs.rows.lent_without.Goals as goal

abbrev now : Bor Row → Row
now r = r.now

pub returns-in-Ok : goal.returns-in-Ok
returns-in-Ok c =
    ap (λ l. map now l) c.remove.ensures.items
    ∙ lent-remove c.in_ok-lent.lent.items c.in-Ok.at
    ∙ ap (λ l. remove l c.in-Ok.at) c.in_ok-lent.ensures
    ∙ sym (without_row-ok c.args.name.now c.args.rows.now c.in-Ok.at (sym c.in-Ok.ensures.value))

pub returns-in-Err : goal.returns-in-Err
returns-in-Err c =
    c.in_ok-lent.ensures
    ∙ sym (without_row-err c.args.name.now c.args.rows.now c.in-Err.field-0 c.requires (sym c.in-Err.ensures.value))
