use Rattle.std.proofs.Common.{◌≡◌, ℕ, List, None, cond, map, filter, take}
use Rattle.apiservice_rows.specs.Row.{Row}
use Rattle.discovery_merge.specs.Groups.{group_of, is_of, once}
use Rattle.discovery_merge.specs.Lent.{lent_rows, lent_view, rows_for, unless_empty}
use Rattle.discovery_merge.proofs.GroupLemmas.{among}
use Rattle.discovery_merge.proofs.lent.lent_groups.Given as goal

abbrev pub invariant-loop-row : goal.invariant-loop-row
invariant-loop-row l = record {
  done : map lent_view l.groups.items
      ≡ map (group_of (lent_rows l.fn.rows)) (once (map (λ (r : Row). r.group) (take l.row-index (lent_rows l.row-items))));
  left : (name : List ℕ) → rows_for name l.by_group
      ≡ cond (among name (map (λ (r : Row). r.group) (take l.row-index (lent_rows l.row-items)))) None
      (unless_empty (filter (is_of name) (lent_rows l.fn.rows)));
}
