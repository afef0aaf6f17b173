use Rattle.std.proofs.Common.{◌≡◌, ℕ, List, filter, take}
use Rattle.discovery_merge.specs.Groups.{is_of}
use Rattle.discovery_merge.specs.Lent.{lent_rows, rows_for, unless_empty}
use Rattle.discovery_merge.proofs.lent.rows_by_group.Given as goal

abbrev pub invariant-loop-row : goal.invariant-loop-row
invariant-loop-row l = (name : List ℕ)
    → rows_for name l.by_group ≡ unless_empty (filter (is_of name) (lent_rows (take l.row-index l.rows)))
