use Rattle.exchange_replies.proofs.SentLemmas.{back_once, back_open}
use Rattle.exchange_replies.proofs.streaming.give_back.Goals as goal

pub returns-in-Once-clause-back : goal.returns-in-Once-clause-back
returns-in-Once-clause-back g c = λ is_head. back_once _ is_head c.in-Once._reached c.args.sent _ c.in-Once.is

pub returns-in-Open-clause-back : goal.returns-in-Open-clause-back
returns-in-Open-clause-back g c = λ is_head.
    back_open _ c.blocks_stay.ensures.found c.blocks_are_bounded.ensures is_head c.in-Open._head c.in-Open._frame c.in-Open._rest
    c.in-Open.link c.args.sent _ _ c.in-Open.is c.done.ensures.noted
