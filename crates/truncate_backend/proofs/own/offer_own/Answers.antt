use Rattle.std.proofs.Common.{List, subst, Ok, Err}
use Rattle.front_base.specs.Line.{Line}
use Rattle.truncate_backend.specs.Tries.{Tried}
use Rattle.truncate_backend.proofs.OwnLemmas.{own_taken, own_failed}
use Rattle.truncate_backend.proofs.own.offer_own.Goals as goal

pub returns-in-Ok : goal.returns-in-Ok
returns-in-Ok g c =
    let m = g.S.BatchSink.tells c.args.sink.now in
    let n = g.S.BatchSink.tells c.put.new.self in
    own_taken m n c.args.line (subst (λ (l : List Line). Tried m l (Ok tt) n) c.from_ref-lines.ensures.value c.in-Ok.ensures)

pub returns-in-Err : goal.returns-in-Err
returns-in-Err g c =
    let m = g.S.BatchSink.tells c.args.sink.now in
    let n = g.S.BatchSink.tells c.put.new.self in
    own_failed m n c.args.line c.in-Err.field-0 (subst (λ (l : List Line). Tried m l (Err c.in-Err.field-0) n) c.from_ref-lines.ensures.value c.in-Err.ensures)
