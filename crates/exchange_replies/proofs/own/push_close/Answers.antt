use Rattle.std.proofs.Common.{ap}
use Rattle.forward_link.specs.Client.{close_header}
use Rattle.exchange_replies.proofs.HeadLemmas.{no_more}
use Rattle.exchange_replies.proofs.own.push_close.Goals as goal

pub returns-else-closing : goal.returns-else-closing
returns-else-closing c = no_more c.args.out.now.items (close_header c.args.closing) (ap close_header c.if-closing.false)
