use Rattle.std.proofs.Common.{sym, ◌∙◌}
use Rattle.http_edge.proofs.More.{HeadLaws, rose_earlier, got_request, body_stops_as, keeps_both}
use Rattle.http_edge.proofs.next.next_whole.Goals as goal

pub returns-in-Ok-next_body-clause-ok : goal.returns-in-Ok-next_body-clause-ok
returns-in-Ok-next_body-clause-ok g c =
    let laws : HeadLaws =
    record {
      bounded = c.blocks_are_bounded.ensures;
      found = c.blocks_stay.ensures.found;
      none = c.blocks_stay.ensures.none;
      blank = c.blocks_stay.ensures.blank;
    } in
    got_request laws _ _ _ _ _ _ _ c.in-Some.frame c.in-Ok.ensures.ok (sym c.frame_of.ensures ∙ c.in-Some.is) _
    c.new.ensures c.in-Ok-next_body.ensures.ok

pub returns-in-Err-next_body-clause-err : goal.returns-in-Err-next_body-clause-err
returns-in-Err-next_body-clause-err g c =
    let laws : HeadLaws =
    record {
      bounded = c.blocks_are_bounded.ensures;
      found = c.blocks_stay.ensures.found;
      none = c.blocks_stay.ensures.none;
      blank = c.blocks_stay.ensures.blank;
    } in
    body_stops_as laws _ _ _ _ _ c.in-Ok.head c.in-Ok.ensures.ok c.in-Some.frame
    (sym c.frame_of.ensures ∙ c.in-Some.is) _ _ c.in-Err-next_body.stop _ c.stop_of_body.ensures
    (rose_earlier _ _ _ c.next_head.ensures.later) c.in-Err-next_body.ensures.err

pub returns-in-Err-next_body-clause-told : goal.returns-in-Err-next_body-clause-told
returns-in-Err-next_body-clause-told g c =
    keeps_both _ _ _ c.in-Err-next_body.stop _ c.stop_of_body.ensures c.in-Ok.ensures.calm c.in-Err-next_body.ensures.told
