use Rattle.request_bounds.proofs.BoundLemmas.{line-most}
use Rattle.request_bounds.proofs.laws.heads_bound_lines.Goals as goal

pub returns : goal.returns
returns c =
    line-most c.texts_are_bounded.ensures.any c.texts_are_bounded.ensures.printed c.texts_are_bounded.ensures.joined
    c.lines_are_bounded.ensures
