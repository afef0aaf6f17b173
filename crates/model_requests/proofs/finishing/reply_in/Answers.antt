use Rattle.std.proofs.Common.{sym, ◌∙◌}
use Rattle.model_requests.proofs.FinishLemmas.{reply_own}
use Rattle.model_requests.proofs.finishing.reply_in.Goals as goal

pub returns : goal.returns
returns c =
    reply_own c.args.handling.now c.args.opened.now c.args.reply c.own_reply.result
    (sym c.reply_due.ensures ∙ c.if-not-reply_due.false) (sym c.is_proxied.ensures ∙ c.if-is_proxied.false)
    c.own_reply.ensures
