use Rattle.std.proofs.Common.{rules, tests}
use Rattle.std.specs.Prelude.{◌==◌}
use Rattle.std.proofs.lemmas.Iterator.Search.{any_from_yields_List}
use Rattle.std.proofs.lemmas.Iterator.Splits.{YieldsList-from_slice_split}
use Rattle.http_head.specs.Connection.{has_only}
use Rattle.apiservice_columns.proofs.accept.has_type.Goals as goal

pub returns : goal.returns
returns c =
    any_from_yields_List (has_only c.args.name.now) _ _ _ c.any.ensures.ran
    (YieldsList-from_slice_split _ (λ b. b == 59) c.args.range.now c.split.ensures.rest c.split.ensures.done c.split.ensures.closure
    (λ x b q k. search (rules, tests)))
    (λ x b q k. search (rules, tests))
