use Rattle.std.proofs.Common.{ap}
use Rattle.exchange_replies.specs.Own.{id_header}
use Rattle.exchange_replies.proofs.HeadLemmas.{no_more}
use Rattle.exchange_replies.proofs.own.push_id.Goals as goal

pub returns-in-None : goal.returns-in-None
returns-in-None c = no_more c.args.out.now.items (id_header c.args.id) (ap id_header c.in-None.is)
