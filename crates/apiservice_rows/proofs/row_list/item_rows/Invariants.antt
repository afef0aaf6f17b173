use Rattle.std.proofs.Common.{◌≡◌, drop}
use Rattle.serde_json.specs.View.{items_view}
use Rattle.apiservice_rows.specs.RowList.{item_rows}
use Rattle.apiservice_rows.proofs.ListLemmas.{with_front}
use Rattle.apiservice_rows.proofs.row_list.item_rows.Given as goal

abbrev pub invariant-loop-place : goal.invariant-loop-place
invariant-loop-place l =
    with_front l.rows.items (item_rows l.place (items_view (drop l.place l.items.items))) ≡ item_rows 0 (items_view l.items.items)
