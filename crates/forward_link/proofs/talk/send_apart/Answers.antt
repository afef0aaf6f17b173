use Rattle.forward_link.proofs.TalkLemmas.{front_of_first, front_of_second}
use Rattle.forward_link.proofs.talk.send_apart.Goals as goal

pub returns-in-Err-clause-err : goal.returns-in-Err-clause-err
returns-in-Err-clause-err g c = front_of_first _ _ c.args.head.now c.args.body.now c.in-Err.ensures.err

pub returns-in-Err-write_all-clause-err : goal.returns-in-Err-write_all-clause-err
returns-in-Err-write_all-clause-err g c =
    front_of_second _ _ _ c.args.head.now c.args.body.now c.in-Ok.ensures.ok c.in-Err-write_all.ensures.err
