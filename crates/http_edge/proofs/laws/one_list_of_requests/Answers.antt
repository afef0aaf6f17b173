use Rattle.http_edge.proofs.One.{one_list, some_list}
use Rattle.http_edge.proofs.laws.one_list_of_requests.Goals as goal

pub returns-clause-one : goal.returns-clause-one
returns-clause-one c = one_list c.one_head.ensures c.first_bodies.ensures.one

pub returns-clause-some : goal.returns-clause-some
returns-clause-some c = λ bytes none.
    some_list c.first_bodies.ensures.some c.heads_end_after_an_empty_line.ensures.ends c.blocks_are_bounded.ensures bytes
    (λ rs e k. none rs e k)
