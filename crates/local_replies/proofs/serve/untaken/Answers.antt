use Rattle.local_replies.proofs.DoneLemmas.{tried_refused}
use Rattle.local_replies.proofs.serve.untaken.Goals as goal

pub returns : goal.returns
returns c =
    tried_refused c.args.rows.now c.args.change.now c.args.fault c.in_ok-reply.reply (c.in_ok-reply.ensures.due _ c.requires)
    c.in_ok-reply.ensures.reply
