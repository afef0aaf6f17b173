use Rattle.std.proofs.Common.{refl}
use Rattle.std.proofs.lemmas.Result.{err_from_is_err_and}
use Rattle.event_members.specs.TextMembers.{reference_at, object_end}
use Rattle.event_members.proofs.LoopLemmas.{fails_then}
use Rattle.event_members.proofs.object_ref.reference_of.Goals as goal

pub returns-in_err-rest : goal.returns-in_err-rest
unfolding reference_at
returns-in_err-rest c =
    let p = err_from_is_err_and c.from_residual-in_err-rest.result c.from_residual-in_err-rest.ensures.1 in
    rw (p.1, p.2, c.in_ok-inside.ensures, c.in_ok-place.ensures, c.in_ok-kind.ensures)
    (fails_then c.in_err-rest.field-0.0 (object_end c.in_ok-kind.rest.now) _ c.in_err-rest.ensures)

pub returns : goal.returns
unfolding reference_at
returns c =
    rw (c.in_ok-inside.ensures, c.in_ok-place.ensures, c.in_ok-kind.ensures, c.in_ok-rest.ensures) refl
