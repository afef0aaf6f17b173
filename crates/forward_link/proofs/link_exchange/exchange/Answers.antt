use Rattle.std.proofs.Common.{◌≡◌, ◌+◌, ◌<◌, ◌++◌, None, arith, refl, sym, ap, subst, ◌∙◌}
use Rattle.forward_link.specs.Exchange.{said_by, is_reply, TalksFinal}
use Rattle.forward_link.specs.Says.{whole, bad, cut}
use Rattle.forward_link.proofs.ExchangeLemmas.{handed, answered, faulted, opened}
use Rattle.forward_link.proofs.ReadingLemmas.{rose_same}
use Rattle.forward_link.proofs.link_exchange.exchange.Goals as goal

pub returns-in-Err-clause-ok : goal.returns-in-Err-clause-ok
returns-in-Err-clause-ok g c = (c.in-Err.ensures.failed, c.in-Err.ensures.cause.failed)

pub returns-in-Ok-Streamed-clause-ok : goal.returns-in-Ok-Streamed-clause-ok
returns-in-Ok-Streamed-clause-ok g c =
    let calm = c.in-Ok-Streamed.ensures.calm (ap is_reply c.in-Ok-Streamed.field-0-is) in
    opened c.args.is_head c.args.streamed _ _ c.args.to _ _ _ (c.args.head.now ++ c.args.body.now) _ _ c.in-Ok-Streamed.head c.in-Ok-Streamed.frame
    c.in-Ok-Streamed.rest
    (record {
      left = g.D.K.Source.left c.talk_over.new.link;
      written = g.D.K.ByteSink.written c.talk_over.new.link;
      number = g.D.K.Link.number c.talk_over.new.link;
      faults = g.D.K.Source.read_faults c.talk_over.new.link + g.D.K.ByteSink.write_faults c.talk_over.new.link;
    })
    c.in-Ok.ensures.noted c.talk_over.ensures.number
    (omega (arith, calm.0, calm.1, c.in-Ok.ensures.fresh.0, c.in-Ok.ensures.fresh.1))
    (ap (said_by (g.D.K.Source.left c.talk_over.new.link)) c.in-Ok-Streamed.field-0-is) c.in-Ok-Streamed.ensures.ok

pub returns-in-Ok-Streamed-clause-status : goal.returns-in-Ok-Streamed-clause-status
returns-in-Ok-Streamed-clause-status g c = subst TalksFinal c.in-Ok-Streamed.field-0-is c.in-Ok-Streamed.ensures.status

pub returns-in-Ok-Whole-clause-status : goal.returns-in-Ok-Whole-clause-status
returns-in-Ok-Whole-clause-status g c = subst TalksFinal c.in-Ok-Whole.field-0-is c.in-Ok-Whole.ensures.status

pub returns-in-Ok-Whole-clause-ok : goal.returns-in-Ok-Whole-clause-ok
returns-in-Ok-Whole-clause-ok g c =
    answered c.args.is_head c.args.streamed _ _ _ c.args.to _ _ _ _ _ _ (c.args.head.now ++ c.args.body.now) _ _ c.in-Ok.ensures.noted c.talk_over.ensures.number
    c.done.ensures.noted (whole c.in-Ok-Whole.head c.in-Ok-Whole.body) (ap (said_by (g.D.K.Source.left c.talk_over.new.link)) c.in-Ok-Whole.field-0-is) c.in-Ok-Whole.ensures.ok

pub returns-in-Ok-BadReply-clause-ok : goal.returns-in-Ok-BadReply-clause-ok
returns-in-Ok-BadReply-clause-ok g c =
    answered c.args.is_head c.args.streamed _ _ _ c.args.to _ _ _ _ _ _ (c.args.head.now ++ c.args.body.now) _ _ c.in-Ok.ensures.noted c.talk_over.ensures.number
    c.done-in-Ok-BadReply.ensures.noted bad (ap (said_by (g.D.K.Source.left c.talk_over.new.link)) c.in-Ok-BadReply.field-0-is) c.in-Ok-BadReply.ensures.ok

pub returns-in-Ok-Cut-clause-ok : goal.returns-in-Ok-Cut-clause-ok
returns-in-Ok-Cut-clause-ok g c =
    answered c.args.is_head c.args.streamed _ _ _ c.args.to _ _ _ _ _ _ (c.args.head.now ++ c.args.body.now) _ _ c.in-Ok.ensures.noted c.talk_over.ensures.number
    c.done-in-Ok-Cut.ensures.noted cut (ap (said_by (g.D.K.Source.left c.talk_over.new.link)) c.in-Ok-Cut.field-0-is) c.in-Ok-Cut.ensures.ok

pub returns-in-Ok-LinkFault-clause-ok : goal.returns-in-Ok-LinkFault-clause-ok
returns-in-Ok-LinkFault-clause-ok g c =
    faulted c.args.is_head c.args.streamed _ _ _ c.args.to _ _ _ _ _ _ (c.args.head.now ++ c.args.body.now) _ _ c.in-Ok.ensures.noted c.talk_over.ensures.number
    c.done-in-Ok-LinkFault.ensures.noted _ (λ f. rose_same _ _ _ c.dial.ensures.link_faults (c.done-in-Ok-LinkFault.ensures.faulty f))
    (ap (said_by (g.D.K.Source.left c.talk_over.new.link)) c.in-Ok-LinkFault.field-0-is) c.in-Ok-LinkFault.ensures.ok

pub returns-in-Err-talk_over-clause-err : goal.returns-in-Err-talk_over-clause-err
returns-in-Err-talk_over-clause-err g c =
    handed c.args.is_head c.args.streamed _ _ _ c.args.to _ _ _ (g.D.K.Source.left c.talk_over.new.link) _ _ (c.args.head.now ++ c.args.body.now)
    (0 < 0) None c.in-Ok.ensures.noted c.talk_over.ensures.number c.done-in-Err-talk_over.ensures.noted c.in-Err-talk_over.ensures.err

pub returns-in-Ok-Whole-clause-faults : goal.returns-in-Ok-Whole-clause-faults
returns-in-Ok-Whole-clause-faults g c = omega (arith, c.dial.ensures.cause.later, c.done.ensures.faults)

pub returns-in-Ok-Whole-clause-link_faults : goal.returns-in-Ok-Whole-clause-link_faults
returns-in-Ok-Whole-clause-link_faults g c = omega (arith, c.dial.ensures.link_faults, c.done.ensures.later)

pub returns-in-Ok-BadReply-clause-faults : goal.returns-in-Ok-BadReply-clause-faults
returns-in-Ok-BadReply-clause-faults g c = omega (arith, c.dial.ensures.cause.later, c.done-in-Ok-BadReply.ensures.faults)

pub returns-in-Ok-BadReply-clause-link_faults : goal.returns-in-Ok-BadReply-clause-link_faults
returns-in-Ok-BadReply-clause-link_faults g c = omega (arith, c.dial.ensures.link_faults, c.done-in-Ok-BadReply.ensures.later)

pub returns-in-Ok-Cut-clause-faults : goal.returns-in-Ok-Cut-clause-faults
returns-in-Ok-Cut-clause-faults g c = omega (arith, c.dial.ensures.cause.later, c.done-in-Ok-Cut.ensures.faults)

pub returns-in-Ok-Cut-clause-link_faults : goal.returns-in-Ok-Cut-clause-link_faults
returns-in-Ok-Cut-clause-link_faults g c = omega (arith, c.dial.ensures.link_faults, c.done-in-Ok-Cut.ensures.later)

pub returns-in-Ok-LinkFault-clause-faults : goal.returns-in-Ok-LinkFault-clause-faults
returns-in-Ok-LinkFault-clause-faults g c = omega (arith, c.dial.ensures.cause.later, c.done-in-Ok-LinkFault.ensures.faults)

pub returns-in-Ok-LinkFault-clause-link_faults : goal.returns-in-Ok-LinkFault-clause-link_faults
returns-in-Ok-LinkFault-clause-link_faults g c = omega (arith, c.dial.ensures.link_faults, c.done-in-Ok-LinkFault.ensures.later)

pub returns-in-Err-talk_over-clause-faults : goal.returns-in-Err-talk_over-clause-faults
returns-in-Err-talk_over-clause-faults g c = omega (arith, c.dial.ensures.cause.later, c.done-in-Err-talk_over.ensures.faults)

pub returns-in-Err-talk_over-clause-link_faults : goal.returns-in-Err-talk_over-clause-link_faults
returns-in-Err-talk_over-clause-link_faults g c = omega (arith, c.dial.ensures.link_faults, c.done-in-Err-talk_over.ensures.later)
