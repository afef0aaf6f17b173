use Rattle.apiservice_table.proofs.LawLemmas.{read_fits}
use Rattle.apiservice_table.proofs.laws.read_rows_fit.Goals as goal

pub returns : goal.returns
returns c = read_fits
