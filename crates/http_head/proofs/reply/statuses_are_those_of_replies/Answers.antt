use Rattle.http_head.proofs.StatusLemmas.{same_status}
use Rattle.http_head.proofs.reply.statuses_are_those_of_replies.Goals as goal

pub returns : goal.returns
returns c = same_status
