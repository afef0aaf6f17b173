use Rattle.std.proofs.Common.{◌≡◌, drop}
use Rattle.apiservice_table.specs.Changes.{after}
use Rattle.model_offers.proofs.tables.table_after.Given as goal

-- the changes that are left lead to the same rows
abbrev pub invariant-loop-change : goal.invariant-loop-change
invariant-loop-change l = after l.table.rows (drop l.change-index l.changes) ≡ after l.fn.opening l.changes
