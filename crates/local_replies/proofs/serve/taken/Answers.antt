use Rattle.local_replies.proofs.DoneLemmas.{tried_taken}
use Rattle.local_replies.proofs.serve.taken.Goals as goal

pub returns-in-Ok : goal.returns-in-Ok
returns-in-Ok c =
    tried_taken c.args.rows.now c.args.change.now c.with_left.result c.requires.due
    (c.with_left.ensures c.args.change.now _ c.in-Ok.ensures c.requires.left)
