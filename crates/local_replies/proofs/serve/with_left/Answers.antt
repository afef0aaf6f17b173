use Rattle.std.proofs.Common.{Some, None, sym, ◌∙◌}
use Rattle.local_replies.proofs.DoneLemmas.{done_left}
use Rattle.local_replies.proofs.serve.with_left.Goals as goal

pub returns-in-Some : goal.returns-in-Some
returns-in-Some c = λ change rows reply left.
    c.json_reply.ensures ∙ done_left c.args.reply (Some c.in-Some.object) change rows reply (sym c.in-Some.is ∙ left)

pub returns-in-None : goal.returns-in-None
returns-in-None c = λ change rows reply left. done_left c.args.reply None change rows reply (sym c.in-None.is ∙ left)
