use Rattle.std.proofs.Common.{ap, subst, take}
use Rattle.std.specs.Option.{MatchOption}
use Rattle.http_head.specs.Request.{IsHeadOf, IsNoRequest}
use Rattle.http_edge.proofs.More.{block_stops_as, got_head}
use Rattle.http_edge.proofs.next.next_head.Goals as goal

pub returns-in-Err-clause-err : goal.returns-in-Err-clause-err
returns-in-Err-clause-err g c =
    block_stops_as _ _ _ _ _ _ c.in-Err.stop _ c.stop_of_block.ensures c.as_slice.ensures.value c.in-Err.ensures.err

-- what is held afterwards is what stands after the head
pub returns-in-Ok-Some-clause-ok : goal.returns-in-Ok-Some-clause-ok
returns-in-Ok-Some-clause-ok g c =
    got_head _ _ _ _ _ _ c.in-Ok.length _ c.in-Ok.ensures.ok
    (ap (take c.in-Ok.length) c.as_slice-2.ensures.value)
    (subst (λ o. MatchOption o (IsNoRequest (take c.in-Ok.length c.as_slice-2.result.now))
    (IsHeadOf (take c.in-Ok.length c.as_slice-2.result.now))) c.in-Ok-Some.field-0-is c.in-Ok-Some.ensures)
    c.skip.ensures
