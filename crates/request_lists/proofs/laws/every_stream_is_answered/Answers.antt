use Rattle.request_lists.proofs.AnswerLemmas.{request-answer, reply-answer, status-answer}
use Rattle.request_lists.proofs.HeadLemmas.{request_decides, reply_decides}
use Rattle.request_lists.proofs.laws.every_stream_is_answered.Goals as goal

pub returns : goal.returns
returns c = record {
  request = request-answer c.blocks_are_bounded.ensures request_decides;
  reply = reply-answer c.blocks_are_bounded.ensures reply_decides;
  status = status-answer c.blocks_are_bounded.ensures reply_decides;
}
