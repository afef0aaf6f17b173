use Rattle.std.proofs.Common.{rules, tests}
use Rattle.std.specs.Prelude.{◌==◌}
use Rattle.std.proofs.lemmas.Iterator.Search.{all_from_yields_List}
use Rattle.std.proofs.lemmas.Iterator.Splits.{YieldsList-from_slice_split}
use Rattle.http_head.specs.Connection.{is_element}
use Rattle.http_head.proofs.connection.has_only.Goals as goal

pub returns : goal.returns
returns c =
    all_from_yields_List (is_element c.args.name.now) _ _ c.all.result c.all.ensures.ran
    (YieldsList-from_slice_split _ (λ b. b == 44) c.args.value.now c.split.ensures.rest c.split.ensures.done c.split.ensures.closure
    (λ x b q k. search (rules, tests)))
    (λ x b q k. search (rules, tests))
