use Rattle.std.proofs.Common.{refl}
use Rattle.audit_reader.specs.EventLine.{times_at}
use Rattle.audit_reader.proofs.event_line.times_of.Goals as goal

pub returns : goal.returns
unfolding times_at
returns c = rw (c.in_ok-received.ensures, c.in_ok-at.ensures, c.truncated_of-truncated.ensures.flag, c.truncated_of-truncated.ensures.rest) refl
