use Rattle.std.proofs.Common.{◌≡◌, cond, sym, ap, ◌∙◌, subst}
use Rattle.std.specs.Prelude.{IfOk}
use Rattle.json_span.specs.Value.{flat, StandsFor}
use Rattle.json_prune.specs.Prune.{prune, fields_of_rows}
use Rattle.json_prune.proofs.TokenLemmas.{has_tokens}
use Rattle.json_prune.proofs.kept.without_rows.Goals as goal

pub returns-then-is_table : goal.returns-then-is_table
returns-then-is_table c = λ v stands is.
    let same = c.as_slice-bytes.ensures.value in
    let table = sym (c.is_table.ensures v (subst (λ l. StandsFor l v) (sym same) stands) (same ∙ is)) ∙ c.if-is_table.true in
    subst (λ t. IfOk c.rows_cut.result (λ left. left.items ≡ flat (cond t (prune fields_of_rows v) v))) (sym table)
    (c.rows_cut.ensures v (same ∙ is) (has_tokens c.args.whole.items v stands))

pub returns-else-is_table : goal.returns-else-is_table
returns-else-is_table c = λ v stands is.
    let same = c.as_slice-bytes.ensures.value in
    let table = sym (c.is_table.ensures v (subst (λ l. StandsFor l v) (sym same) stands) (same ∙ is)) ∙ c.if-is_table.false in
    is ∙ ap (λ t. flat (cond t (prune fields_of_rows v) v)) (sym table)
