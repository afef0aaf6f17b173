use Rattle.model_requests.proofs.FinishLemmas.{own_kept}
use Rattle.model_requests.proofs.finishing.own_reply.Goals as goal

pub returns : goal.returns
returns c = own_kept c.args.handling.now c.args.managed c.args.is_head c.of.result c.kept_own.result c.of.ensures c.kept_own.ensures
