use Rattle.line_bounds.proofs.LineLemmas.{line-most}
use Rattle.line_bounds.proofs.laws.lines_are_bounded.Goals as goal

pub returns : goal.returns
returns c = line-most
