use Rattle.request_info.proofs.SelectorLemmas.{empty_is_none, empty_asks_all}
use Rattle.request_info.proofs.laws.empty_selectors_are_none.Goals as goal

pub returns : goal.returns
returns c = record {
  first = λ before after pair empty. empty_is_none before after pair empty;
  less = λ name plain. empty_asks_all name plain;
}
