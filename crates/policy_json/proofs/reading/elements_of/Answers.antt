use Rattle.std.proofs.Common.{◌≡◌, ◌+◌, ◌∷◌, drop, sym, ap, ◌∙◌}
use Rattle.std.proofs.lemmas.List.{drop_more}
use Rattle.serde_json.specs.View.{view, items_view}
use Rattle.policy_json.specs.Reading.{each_from, element_of}
use Rattle.policy_json.proofs.ListLemmas.{with_front, each_more}
use Rattle.policy_json.proofs.reading.elements_of.Goals as goal

pub loop-item-preserved : goal.loop-item-preserved
loop-item-preserved c =
    let xs = c.args.items.now.items in
    let i = c.loop-item.item-index in
    let x = c.item-item.result in
    let done = c.loop-item.elements.items in
    let is = rw c.deref-item-items.ensures.value at c.item-item.is in
    let len = rw c.deref-item-items.ensures.value at c.loop-item-test.true in
    let here : drop i xs ≡ x ∷ drop (i + 1) xs = drop_more xs i x len ∙ ap (λ y. y ∷ drop (i + 1) xs) (sym is) in
    let more = each_more (λ place d. element_of c.args.rule d) done i (view x) (items_view (drop (i + 1) xs)) _ c.in_ok-element_of.ensures in
    rw c.in_ok-push.ensures.items
    (more
    ∙ ap (λ ys. with_front done (each_from (λ place d. element_of c.args.rule d) i (items_view ys))) (sym here)
    ∙ c.loop-item.invariant)
