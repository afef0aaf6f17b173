use Rattle.std.proofs.Common.{subst, sym}
use Rattle.audit_check.specs.Conforms.{HasAccepted}
use Rattle.check_command.proofs.ReviewLemmas.{looked_accepted, looked_ended, looked_refused}
use Rattle.front_ports.specs.Cause.{Rose}
use Rattle.check_command.proofs.review.review_next.Goals as goal

pub returns-in-Accepted-clause-reviews : goal.returns-in-Accepted-clause-reviews
returns-in-Accepted-clause-reviews g c policy before earlier h l =
    looked_accepted policy before earlier c.args.lines _ _ _ _ c.args.spent
    (Rose (g.S.Source.read_faults c.args.input.now) (g.S.Source.read_faults c.check_next.new.input)) _ _ (c.in-Accepted.ensures.checks policy before h) l

pub returns-in-Ok-clause-reviews : goal.returns-in-Ok-clause-reviews
returns-in-Ok-clause-reviews g c policy before earlier h l =
    looked_refused policy before earlier c.args.lines _ _ _ c.check_next.new.buffer c.args.spent
    (Rose (g.S.Source.read_faults c.args.input.now) (g.S.Source.read_faults c.check_next.new.input)) c.check_next.new.checker c.args.bad.now c.pass_bad.new.bad
    c.in-Refused.length c.in-Refused.why c.pass_bad.new.buffer (c.in-Refused.ensures.checks policy before h)
    (subst (HasAccepted policy before) (sym c.in-Refused.ensures.stays) h) c.in-Ok.ensures.passes c.in-Ok.ensures.notes l

pub returns-in-End-clause-reviews : goal.returns-in-End-clause-reviews
returns-in-End-clause-reviews g c policy before earlier h l =
    looked_ended policy before earlier c.args.lines _ _ _ _ c.args.spent
    (Rose (g.S.Source.read_faults c.args.input.now) (g.S.Source.read_faults c.check_next.new.input)) c.check_next.new.checker c.args.bad.now c.in-End.end
    (c.in-End.ensures.checks policy before h) l

pub returns-in-Err-clause-reviews : goal.returns-in-Err-clause-reviews
returns-in-Err-clause-reviews g c policy before earlier h l = (tt, c.in-Err.ensures.kept earlier l)
