use Rattle.apiservice_table.proofs.IndexLemmas.{Leads}
use Rattle.apiservice_table.proofs.index.Index.find.Given as goal

-- the row, if it is there, stands at the next place or is led to from it
abbrev pub invariant-loop : goal.invariant-loop
invariant-loop l = Leads l.group l.version l.rows l.next
