use Rattle.std.proofs.Common.{◌≡◌, List, [], ◌∷◌, length, false, true≢false, refl, sym, ap, ◌∙◌}
use Rattle.std.specs.Prelude.{◌==◌}
use Rattle.serde_json.specs.View.{items_view}
use Rattle.serde_json.specs.declared.value.Value.{Value}
use Rattle.policy_json.specs.Reading.{rules_of, some_rules}
use Rattle.policy_json.proofs.read.some_rules.Goals as goal

-- a list that isn't empty has the rules of its items
not_empty : (items : List Value) → (length items == 0) ≡ false → some_rules (items_view items) ≡ rules_of (items_view items)
not_empty [] h = absurd (true≢false h)
not_empty (x ∷ xs) h = refl

pub returns : goal.returns
returns c =
    let items = c.args.items.now in
    let len : (length items.items == 0) ≡ false = ap (λ n. n == 0) (sym items.ok.0) ∙ sym c.is_empty.ensures ∙ c.if-is_empty.false in
    rw (not_empty items.items len) c.rules_of.ensures
