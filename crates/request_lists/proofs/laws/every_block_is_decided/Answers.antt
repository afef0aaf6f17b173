use Rattle.request_lists.proofs.HeadLemmas.{request_decides, reply_decides}
use Rattle.request_lists.proofs.laws.every_block_is_decided.Goals as goal

pub returns : goal.returns
returns c = record { request = request_decides; reply = reply_decides }
