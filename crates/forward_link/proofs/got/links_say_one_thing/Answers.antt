use Rattle.forward_link.specs.declared.kind.TheConstants.{MOST_INTERIM}
use Rattle.forward_link.proofs.SaysLemmas.{one_says}
use Rattle.forward_link.proofs.got.links_say_one_thing.Goals as goal

pub returns : goal.returns
returns c = λ is_head streamed held a b p q. one_says c.one_reply.ensures is_head streamed MOST_INTERIM held a b p q
