use Rattle.std.proofs.Common.{sym, ◌∙◌}
use Rattle.group_resources.proofs.DocumentLemmas.{one_document, read_back}
use Rattle.group_resources.proofs.laws.documents_are_read_back.Goals as goal

pub returns-clause-back : goal.returns-clause-back
returns-clause-back c = read_back c.lines_are_read_back.ensures

pub returns-clause-one : goal.returns-clause-one
returns-clause-one c = λ bytes a b ha hb.
    one_document c.lines_are_read_back.ensures a b ha.lines_are.each hb.lines_are.each (sym ha.text ∙ hb.text)
