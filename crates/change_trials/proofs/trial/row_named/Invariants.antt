use Rattle.std.proofs.Common.{◌≡◌, drop}
use Rattle.apiservice_table.specs.Table.{row_named}
use Rattle.change_trials.proofs.trial.row_named.Given as goal

-- what was passed has another name
abbrev pub invariant-loop-row : goal.invariant-loop-row
invariant-loop-row l = row_named l.name (drop l.row-index l.rows) ≡ row_named l.name l.rows
