use Rattle.std.proofs.Common.{◌≡◌, ◌+◌, ◌∷◌, drop, sym, ap, ◌∙◌}
use Rattle.std.proofs.lemmas.List.{append-nil, drop_more, drop_all}
use Rattle.std.proofs.lemmas.Result.{err_from_is_err_and}
use Rattle.serde_json.specs.View.{view, items_view}
use Rattle.apiservice_rows.specs.RowList.{item_rows}
use Rattle.apiservice_rows.proofs.ListLemmas.{with_front, rows_more, fault_stops, rows_end}
use Rattle.apiservice_rows.proofs.row_list.item_rows.Goals as goal

pub returns-in_err-row_of : goal.returns-in_err-row_of
returns-in_err-row_of c =
    let xs = c.args.items.now.items in
    let i = c.loop-place.place in
    let x = c.item-item.result in
    let p = err_from_is_err_and c.from_residual.result c.from_residual.ensures.1 in
    let is = rw c.deref-item-items.ensures.value at c.item-item.is in
    let len = rw c.deref-item-items.ensures.value at c.loop-place-test.true in
    let here : drop i xs ≡ x ∷ drop (i + 1) xs = drop_more xs i x len ∙ ap (λ y. y ∷ drop (i + 1) xs) (sym is) in
    let invariant = ap (λ ys. with_front c.loop-place.rows.items (item_rows i (items_view ys))) (sym here) ∙ c.loop-place.invariant in
    rw (p.1, p.2) (fault_stops c.loop-place.rows.items i (view x) (items_view (drop (i + 1) xs)) _ c.in_err-row_of.field-0.0 c.in_err-row_of.ensures invariant)

pub loop-place-preserved : goal.loop-place-preserved
loop-place-preserved c =
    let xs = c.args.items.now.items in
    let i = c.loop-place.place in
    let x = c.item-item.result in
    let is = rw c.deref-item-items.ensures.value at c.item-item.is in
    let len = rw c.deref-item-items.ensures.value at c.loop-place-test.true in
    let here : drop i xs ≡ x ∷ drop (i + 1) xs = drop_more xs i x len ∙ ap (λ y. y ∷ drop (i + 1) xs) (sym is) in
    let more = rows_more c.loop-place.rows.items i (view x) (items_view (drop (i + 1) xs)) c.in_ok-row_of.field-0 c.in_ok-row_of.ensures in
    rw c.in_ok-push.ensures.items (more ∙ ap (λ ys. with_front c.loop-place.rows.items (item_rows i (items_view ys))) (sym here) ∙ c.loop-place.invariant)

pub returns : goal.returns
returns c =
    let xs = c.args.items.now.items in
    let i = c.loop-place.place in
    let len = rw c.deref-item-items.ensures.value at c.loop-place-test.false in
    sym c.loop-place.invariant ∙ rw (drop_all i xs len) (rows_end c.loop-place.rows.items i ∙ simp append-nil)
