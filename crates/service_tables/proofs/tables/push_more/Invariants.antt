use Rattle.std.proofs.Common.{◌≡◌, ◌∷◌, ◌++◌, take}
use Rattle.std.specs.List.{flat_map}
use Rattle.apiservice_rows.specs.Row.{Row}
use Rattle.service_tables.specs.Tables.{row_text}
use Rattle.service_tables.proofs.tables.push_more.Given as goal

-- the rows that were passed are written
abbrev pub invariant-loop-row : goal.invariant-loop-row
invariant-loop-row l =
    l.out.items ≡ l.fn.out.items ++ flat_map (λ (row : Row). 44 ∷ row_text l.include l.now row) (take l.row-index l.rows)
