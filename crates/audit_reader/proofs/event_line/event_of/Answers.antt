use Rattle.std.proofs.lemmas.Result.{err_from_is_err_and}
use Rattle.audit_reader.specs.EventLine.{event_at, times_at, end_at}
use Rattle.audit_reader.proofs.RoundTripLemmas.{fails_then}
use Rattle.audit_reader.proofs.event_line.event_of.Goals as goal

pub returns-in_err-times : goal.returns-in_err-times
unfolding event_at
returns-in_err-times c =
    let p = err_from_is_err_and c.from_residual-in_err-times.result c.from_residual-in_err-times.ensures.1 in
    rw (p.1, p.2, c.in_ok-which.ensures, c.in_ok-who.ensures, c.in_ok-from.ensures, c.in_ok-reply.ensures)
    (fails_then c.in_err-times.field-0.0 (times_at c.in_ok-reply.rest.now) _ c.in_err-times.ensures)

pub returns-in_err-_end : goal.returns-in_err-_end
unfolding event_at
returns-in_err-_end c =
    let p = err_from_is_err_and c.from_residual-in_err-_end.result c.from_residual-in_err-_end.ensures.1 in
    rw (p.1, p.2, c.in_ok-which.ensures, c.in_ok-who.ensures, c.in_ok-from.ensures, c.in_ok-reply.ensures, c.in_ok-times.ensures)
    (fails_then c.in_err-_end.field-0.0 (end_at c.in_ok-times.rest.now) _ c.in_err-_end.ensures)
