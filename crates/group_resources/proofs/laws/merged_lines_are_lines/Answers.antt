use Rattle.group_resources.proofs.MergedLemmas.{merged_line_is}
use Rattle.group_resources.proofs.laws.merged_lines_are_lines.Goals as goal

pub returns : goal.returns
returns c = λ version fetched previous u f lines. merged_line_is version fetched previous u f lines.each
