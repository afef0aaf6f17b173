use Rattle.std.proofs.Common.{◌≡◌, drop, vec_len}
use Rattle.serde_json.specs.View.{items_view}
use Rattle.policy_json.specs.Reading.{each_from, rule_of}
use Rattle.policy_json.proofs.ListLemmas.{with_front}
use Rattle.policy_json.proofs.read.rules_of.Given as goal

abbrev pub invariant-loop-item : goal.invariant-loop-item
invariant-loop-item l = record {
  counted : l.place ≡ l.item-index;
  all : vec_len l.rules ≡ l.item-index;
  rest : with_front l.rules.items (each_from rule_of l.item-index (items_view (drop l.item-index l.items.items)))
      ≡ each_from rule_of 0 (items_view l.items.items);
}
