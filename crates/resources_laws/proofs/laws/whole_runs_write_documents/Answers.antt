use Rattle.resources_laws.proofs.LaterLemmas.{wrote_document}
use Rattle.resources_laws.proofs.LineLemmas.{merged_are}
use Rattle.resources_laws.proofs.laws.whole_runs_write_documents.Goals as goal

pub returns-clause-lines : goal.returns-clause-lines
returns-clause-lines c = merged_are c.read_rows_fit.ensures c.listed_arrays_are_arrays.ensures c.merged_lines_are_lines.ensures

pub returns-clause-document : goal.returns-clause-document
returns-clause-document c =
    wrote_document (merged_are c.read_rows_fit.ensures c.listed_arrays_are_arrays.ensures c.merged_lines_are_lines.ensures)
