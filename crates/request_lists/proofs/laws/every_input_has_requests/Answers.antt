use Rattle.request_lists.proofs.HeadLemmas.{request_decides}
use Rattle.request_lists.proofs.ListLemmas.{has-requests}
use Rattle.request_lists.proofs.laws.every_input_has_requests.Goals as goal

pub returns : goal.returns
returns c =
    has-requests c.first_bodies.ensures.some c.heads_end_after_an_empty_line.ensures.ends c.blocks_are_bounded.ensures request_decides
