use Rattle.http_edge.proofs.More.{HeadLaws, BodyLaws, starts-more, refused-more}
use Rattle.http_edge.proofs.laws.requests_stay.Goals as goal

pub returns-clause-starts : goal.returns-clause-starts
returns-clause-starts c =
    let laws : HeadLaws =
    record {
      bounded = c.blocks_are_bounded.ensures;
      found = c.blocks_stay.ensures.found;
      none = c.blocks_stay.ensures.none;
      blank = c.blocks_stay.ensures.blank;
    } in
    let bodies : BodyLaws =
    record { whole = c.first_bodies.ensures.whole; refused = c.first_bodies.ensures.refused } in
    starts-more laws bodies

pub returns-clause-refused : goal.returns-clause-refused
returns-clause-refused c =
    let laws : HeadLaws =
    record {
      bounded = c.blocks_are_bounded.ensures;
      found = c.blocks_stay.ensures.found;
      none = c.blocks_stay.ensures.none;
      blank = c.blocks_stay.ensures.blank;
    } in
    let bodies : BodyLaws =
    record { whole = c.first_bodies.ensures.whole; refused = c.first_bodies.ensures.refused } in
    refused-more laws bodies
