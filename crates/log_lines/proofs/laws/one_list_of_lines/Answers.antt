use Rattle.log_lines.proofs.LineLemmas.{one_list}
use Rattle.log_lines.proofs.laws.one_list_of_lines.Goals as goal

pub returns : goal.returns
returns c = one_list
