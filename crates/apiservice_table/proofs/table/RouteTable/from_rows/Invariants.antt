use Rattle.std.proofs.Common.{◌≡◌, [], length}
use Rattle.std.specs.Vec.Iter.{into_iter_items, into_iter_len}
use Rattle.apiservice_table.specs.Order.{AllNamed, IsInOrder}
use Rattle.apiservice_table.specs.Table.{with_rows}
use Rattle.apiservice_table.proofs.table.RouteTable.from_rows.Given as goal

-- the rows so far are in order, and the others are still to be put in
abbrev pub invariant-loop-row : goal.invariant-loop-row
invariant-loop-row l = record {
  can : (goal.iterator-loop-row).can_next l.row-iterator;
  finite : (goal.iterator-loop-row).is_finite l.row-iterator;
  size : into_iter_len l.row-iterator ≡ length (into_iter_items l.row-iterator);
  order : IsInOrder l.ordered.items;
  named : AllNamed l.ordered.items;
  rest : with_rows (into_iter_items l.row-iterator) l.ordered.items ≡ with_rows l.fn.rows [];
}
