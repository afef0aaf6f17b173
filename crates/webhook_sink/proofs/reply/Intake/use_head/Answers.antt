use Rattle.http_head.specs.declared.answer.StatusAnswer.TheVariants as status
use Rattle.webhook_sink.proofs.ReplyLemmas.{status_at}
use Rattle.webhook_sink.proofs.reply.Intake.use_head.Goals as goal

pub skip-requires : goal.skip-requires
skip-requires c =
    let is = status_at _ _ (status.Whole c.in-Whole.status c.in-Whole.length) c.as_slice.ensures.value c.in-Whole.ensures in
    (c.blocks_are_bounded.ensures _ c.in-Whole.length is.0).0

pub returns-in-BadHead-clause-is : goal.returns-in-BadHead-clause-is
returns-in-BadHead-clause-is c = status_at _ _ status.BadHead c.as_slice.ensures.value c.in-BadHead.ensures

pub returns-in-TooLarge-clause-is : goal.returns-in-TooLarge-clause-is
returns-in-TooLarge-clause-is c = status_at _ _ status.TooLarge c.as_slice.ensures.value c.in-TooLarge.ensures
