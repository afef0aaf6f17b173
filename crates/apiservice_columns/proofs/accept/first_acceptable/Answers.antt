use Rattle.std.proofs.Common.{rules, tests}
use Rattle.std.specs.Prelude.{◌==◌}
use Rattle.std.proofs.lemmas.Iterator.Search.{find_from_yields_List}
use Rattle.std.proofs.lemmas.Iterator.Splits.{YieldsList-from_slice_split}
use Rattle.apiservice_columns.specs.Accept.{is_acceptable}
use Rattle.apiservice_columns.proofs.accept.first_acceptable.Goals as goal

pub returns : goal.returns
returns c =
    find_from_yields_List is_acceptable _ _ _ c.find.ensures.ran
    (YieldsList-from_slice_split _ (λ b. b == 44) c.args.accept.now c.split.ensures.rest c.split.ensures.done c.split.ensures.closure
    (λ x b q k. search (rules, tests)))
    (λ x b q k. search (rules, tests))
