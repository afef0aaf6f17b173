use Rattle.std.proofs.Common.{◌≤◌, length}
use Rattle.apiservice_table.specs.Index.{LinksFrom}
use Rattle.apiservice_table.proofs.index.Index.relink.Given as goal

-- the rows from here on are linked
abbrev pub invariant-loop-at : goal.invariant-loop-at
invariant-loop-at l = (l.at ≤ length l.rows) × LinksFrom l.at l.rows l.self

abbrev pub decreases-loop-at : goal.decreases-loop-at
decreases-loop-at l = l.at
