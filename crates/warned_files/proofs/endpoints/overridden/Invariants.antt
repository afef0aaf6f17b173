use Rattle.std.proofs.Common.{◌≡◌, ◌≤◌, ℕ, List, drop, reverse, length, Bor}
use Rattle.std.specs.BTreeSet.{contains}
use Rattle.std.specs.Cmp.Lexicographic.{slice_cmp}
use Rattle.std.specs.Ordering.{nat_cmp}
use Rattle.apiservice_rows.specs.RowList.{is_among}
use Rattle.warned_files.specs.Endpoints.{overridden}
use Rattle.warned_files.proofs.endpoints.overridden.Given as goal

-- the set has the keys of the rows that were passed, and of these the places were found, last first
abbrev pub invariant-loop-i : goal.invariant-loop-i
invariant-loop-i l = record {
  held : (q : Bor (List ℕ)) → contains (λ (x y : Bor (List ℕ)). slice_cmp nat_cmp x.now y.now) l.later q ≡ is_among q.now (drop l.i l.keys);
  within : l.i ≤ length l.keys;
  found : l.found.items ≡ reverse (overridden l.i (drop l.i l.keys));
}

abbrev pub decreases-loop-i : goal.decreases-loop-i
decreases-loop-i l = l.i
