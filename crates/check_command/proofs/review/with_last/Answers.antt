use Rattle.std.proofs.Common.{inl, inr, refl}
use Rattle.check_command.proofs.review.with_last.Goals as goal

pub returns-in-Ok-clause-ends : goal.returns-in-Ok-clause-ends
returns-in-Ok-clause-ends c = inr (refl, c.in-Ok.ensures.adds)

pub returns-in-Err-clause-ends : goal.returns-in-Err-clause-ends
returns-in-Err-clause-ends c = inl (refl, c.in-Err.ensures.kept)
