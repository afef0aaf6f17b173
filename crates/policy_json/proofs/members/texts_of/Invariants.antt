use Rattle.std.proofs.Common.{◌≡◌, drop}
use Rattle.serde_json.specs.View.{items_view}
use Rattle.policy_json.specs.Reading.{each_from, text_of}
use Rattle.policy_json.proofs.ListLemmas.{with_front}
use Rattle.policy_json.proofs.members.texts_of.Given as goal

abbrev pub invariant-loop-item : goal.invariant-loop-item
invariant-loop-item l =
    with_front l.texts.items (each_from (λ place d. text_of l.rule l.name d) l.item-index (items_view (drop l.item-index l.items.items)))
    ≡ each_from (λ place d. text_of l.rule l.name d) 0 (items_view l.items.items)
