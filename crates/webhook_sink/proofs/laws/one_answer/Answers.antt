use Rattle.webhook_sink.proofs.OneReplyLemmas.{one-reply, some-reply}
use Rattle.webhook_sink.proofs.laws.one_answer.Goals as goal

pub returns : goal.returns
returns c = record {
  one = one-reply c.statuses_are_those_of_replies.ensures c.every_stream_is_answered.ensures.reply;
  some = some-reply c.every_stream_is_answered.ensures.status;
}
