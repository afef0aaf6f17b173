use Rattle.std.proofs.Common.{◌≡◌, take}
use Rattle.model_offers.proofs.tables.copy_rows.Given as goal

-- the rows that were passed are copied
abbrev pub invariant-loop-row : goal.invariant-loop-row
invariant-loop-row l = l.copies.items ≡ take l.row-index l.rows
