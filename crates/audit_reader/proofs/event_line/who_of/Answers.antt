use Rattle.std.proofs.Common.{refl}
use Rattle.audit_reader.specs.EventLine.{who_at}
use Rattle.audit_reader.proofs.event_line.who_of.Goals as goal

pub returns : goal.returns
unfolding who_at
returns c = rw (c.in_ok-target.ensures, c.in_ok-verb.ensures, c.in_ok-user.ensures, c.in_ok-impersonated.ensures) refl
