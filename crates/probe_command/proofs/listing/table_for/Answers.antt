use Rattle.std.proofs.Common.{refl}
use Rattle.probe_command.proofs.listing.table_for.Goals as goal

pub returns-then-is_named-clause-ok : goal.returns-then-is_named-clause-ok
returns-then-is_named-clause-ok g c = rw c.if-is_named.true (refl, refl)

pub returns-clause-ok : goal.returns-clause-ok
returns-clause-ok g c = rw c.if-is_named.false c.fetch_rows.ensures.ok

pub returns-clause-err : goal.returns-clause-err
returns-clause-err g c = rw c.if-is_named.false c.fetch_rows.ensures.err
