use Rattle.std.proofs.Common.{rules}
use Rattle.std.proofs.lemmas.Fn.{always_returns_same}
use Rattle.apiservice_table.proofs.PlaceLemmas.{by_name, searched_place}
use Rattle.apiservice_table.proofs.place.place_of.Goals as goal

pub returns-clause-value : goal.returns-clause-value
returns-clause-value c =
    searched_place c.args.name.now c.args.rows.now c.binary_search_by.result c.requires
    (c.binary_search_by.ensures.position (by_name c.args.name.now) (always_returns_same _ _ _ (λ a r f' h. search (rules, h))))
    c.binary_search_by.ensures.bound
