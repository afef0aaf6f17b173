use Rattle.exchange_replies.proofs.WritingLemmas.{cut_first, second}
use Rattle.exchange_replies.proofs.writing.put_apart.Goals as goal

pub returns-in-Whole-clause-wrote : goal.returns-in-Whole-clause-wrote
returns-in-Whole-clause-wrote g c =
    second _ _ _ c.args.head.now c.args.body.now _ _ _ c.put_text-in-Whole.result c.put_text.ensures.later
    c.in-Whole.ensures.wrote c.put_text-in-Whole.ensures.wrote

pub returns-in-Cut-clause-wrote : goal.returns-in-Cut-clause-wrote
returns-in-Cut-clause-wrote g c =
    cut_first _ _ c.args.head.now c.args.body.now _ _ c.in-Cut.ensures.wrote
