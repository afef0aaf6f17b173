use Rattle.std.proofs.Common.{subst, sym}
use Rattle.probe_command.specs.Listing.{IsNoTable}
use Rattle.probe_command.specs.declared.listing.ListStop.{ListStop}
use Rattle.probe_command.proofs.ListingLemmas.{no_table}
use Rattle.probe_command.proofs.listing.table_in.Goals as goal

pub returns-in-Ok-from_rows-clause-ok : goal.returns-in-Ok-from_rows-clause-ok
returns-in-Ok-from_rows-clause-ok c = (c.in-Ok.rows, c.in-Ok.ensures, c.in-Ok-from_rows.ensures.rows)

pub returns-in-Err-clause-err : goal.returns-in-Err-clause-err
returns-in-Err-clause-err c =
    subst (λ (own : ListStop). IsNoTable c.args.body.now own) (sym c.stop_by.ensures) (no_table c.args.body.now c.in-Err.fault c.in-Err.ensures)
