use Rattle.std.proofs.Common.{Some, map, ap, sym, ◌∙◌, arith}
use Rattle.std.proofs.lemmas.Bool.{cond-true, cond-false}
use Rattle.std.proofs.lemmas.Bool.Decides.{nat_tests}
use Rattle.apiservice_rows.specs.Row.{Row}
use Rattle.discovery_merge.specs.Documents.{group_text, group_document}
use Rattle.discovery_merge.proofs.GroupLemmas.{none_found, some_found}
use Rattle.discovery_merge.proofs.documents.group.Goals as goal

pub returns-then-is_empty-clause-refused : goal.returns-then-is_empty-clause-refused
unfolding group_text
returns-then-is_empty-clause-refused c =
    cond-false _ _ _ (none_found c.args.name.now c.args.rows.now c.in_ok-rows.rows.items c.in_ok-rows.ensures
    (grind (arith, nat_tests)))

pub returns-clause-text : goal.returns-clause-text
unfolding group_text
returns-clause-text c =
    cond-true _ _ _ (some_found c.args.name.now c.args.rows.now c.in_ok-rows.rows.items c.in_ok-rows.ensures
    (grind (arith, nat_tests)))
    ∙ ap Some (
    ap (λ rows. group_document (record { name = c.args.name.now; versions = map (λ (r : Row). r.version) rows }))
    (sym c.in_ok-rows.ensures)
    ∙ sym c.in_ok-document.ensures
    )
