use Rattle.std.proofs.Common.{◌∷◌, ◌++◌, [], Some, cond, unwrap_or, sym, ap, ◌∙◌}
use Rattle.discovery_merge.specs.Groups.{is_of}
use Rattle.discovery_merge.proofs.GroupLemmas.{of_group_lent}
use Rattle.discovery_merge.proofs.lent.rows_by_group.Goals as goal

pub loop-row-preserved : goal.loop-row-preserved
loop-row-preserved c = λ name.
    let r = c.row-item.result in
    c.in_ok-add_row.ensures name
    ∙ ap (λ o. cond (is_of name r.now) (Some (unwrap_or o [] ++ r.now ∷ [])) o) (c.loop-row.invariant name)
    ∙ sym (of_group_lent name c.args.rows.now c.loop-row.row-index r c.loop-row-test.true c.row-item.is)
