use Rattle.std.proofs.Common.{◌≡◌, ℕ, List, [], take, drop, Bor}
use Rattle.std.specs.BTreeSet.{contains}
use Rattle.std.specs.Cmp.Lexicographic.{slice_cmp}
use Rattle.std.specs.Ordering.{nat_cmp}
use Rattle.apiservice_rows.specs.RowList.{is_among, names_of, repeated}
use Rattle.apiservice_rows.proofs.row_list.check_distinct.Given as goal

-- the tree has the names that were passed, and none of them was repeated
abbrev pub invariant-loop-place : goal.invariant-loop-place
invariant-loop-place l = record {
  held : (q : Bor (List ℕ)) → contains (λ (x y : Bor (List ℕ)). slice_cmp nat_cmp x.now y.now) l.names q ≡ is_among q.now (names_of (take l.place l.rows));
  rest : repeated (names_of (take l.place l.rows)) (names_of (drop l.place l.rows)) ≡ repeated [] (names_of l.rows);
}
