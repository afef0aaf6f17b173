use Rattle.std.proofs.Common.{ap, subst}
use Rattle.apiservice_table.specs.Table.{HasDistinctNames, Table}
use Rattle.apiservice_table.proofs.OrderLemmas.{distinct_in_order}
use Rattle.apiservice_table.proofs.table.RouteTable.rows.Goals as goal

pub returns-clause-distinct : goal.returns-clause-distinct
returns-clause-distinct c =
    subst HasDistinctNames (ap (λ (t : Table). t.rows) c.self.view_is)
    (distinct_in_order c.self.inside.rows.items c.self.invariant.0)
