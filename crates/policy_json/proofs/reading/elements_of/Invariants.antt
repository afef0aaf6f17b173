use Rattle.std.proofs.Common.{◌≡◌, drop}
use Rattle.serde_json.specs.View.{items_view}
use Rattle.policy_json.specs.Reading.{each_from, element_of}
use Rattle.policy_json.proofs.ListLemmas.{with_front}
use Rattle.policy_json.proofs.reading.elements_of.Given as goal

abbrev pub invariant-loop-item : goal.invariant-loop-item
invariant-loop-item l =
    with_front l.elements.items (each_from (λ place d. element_of l.rule d) l.item-index (items_view (drop l.item-index l.items.items)))
    ≡ each_from (λ place d. element_of l.rule d) 0 (items_view l.items.items)
