use Rattle.group_resources.proofs.LineLemmas.{Laws, line_again}
use Rattle.group_resources.proofs.laws.lines_are_read_back.Goals as goal

pub returns : goal.returns
returns c =
    let law : Laws = record { texts = c.members_read_back.ensures.texts; one_length = c.one_length.ensures } in
    line_again law
