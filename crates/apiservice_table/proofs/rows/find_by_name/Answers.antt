use Rattle.std.proofs.Common.{true, false, sym, ◌∙◌}
use Rattle.apiservice_table.proofs.FindLemmas.{row_at, row_none}
use Rattle.apiservice_table.proofs.rows.find_by_name.Goals as goal

pub returns-then-is_of : goal.returns-then-is_of
returns-then-is_of c =
    sym (row_at c.args.group.now c.args.version.now c.args.rows.now c.in-Ok.at c.index-rows-at.result true
    c.requires.order c.requires.named (sym c.in-Ok.ensures.value) c.in-Ok.ensures.within c.index-rows-at.is (sym c.if-is_of.true ∙ c.is_of.ensures))

pub returns-else-is_of : goal.returns-else-is_of
returns-else-is_of c =
    sym (row_at c.args.group.now c.args.version.now c.args.rows.now c.in-Ok.at c.index-rows-at.result false
    c.requires.order c.requires.named (sym c.in-Ok.ensures.value) c.in-Ok.ensures.within c.index-rows-at.is (sym c.if-is_of.false ∙ c.is_of.ensures))

pub returns-in-Err : goal.returns-in-Err
returns-in-Err c =
    sym (row_none c.args.group.now c.args.version.now c.args.rows.now c.in-Err.field-0 c.requires.order c.requires.named (sym c.in-Err.ensures.value))
