use Rattle.std.proofs.Common.{refl}
use Rattle.audit_reader.specs.EventLine.{reply_at}
use Rattle.audit_reader.proofs.event_line.reply_of.Goals as goal

pub returns : goal.returns
unfolding reply_at
returns c = rw (c.in_ok-code.ensures, c.in_ok-request.ensures, c.in_ok-response.ensures) refl
