use Rattle.std.proofs.lemmas.Result.{IfOk-weaker, on_err_weaker}
use Rattle.exchange_replies.proofs.SentLemmas.{once_to, once_part, open_to, open_part}
use Rattle.exchange_replies.proofs.streaming.reply_to.Goals as goal

pub returns-in-Once-clause-ok : goal.returns-in-Once-clause-ok
returns-in-Once-clause-ok g c =
    IfOk-weaker c.reply_once.result _ _
    (λ own h. once_to _ c.args.request.now c.args.tag c.args.handling.now c.args.show c.in-Once.reached c.args.sent _ _ _ _ own c.in-Once.is h)
    c.reply_once.ensures.ok

pub returns-in-Once-clause-err : goal.returns-in-Once-clause-err
returns-in-Once-clause-err g c =
    on_err_weaker c.reply_once.result
    (λ h. once_part _ c.args.request.now c.args.tag c.args.handling.now c.in-Once.reached c.args.sent _ _ _ c.in-Once.is h)
    c.reply_once.ensures.err

pub returns-in-Open-clause-ok : goal.returns-in-Open-clause-ok
returns-in-Open-clause-ok g c =
    IfOk-weaker c.stream.result _ _
    (λ own h. open_to _ c.args.request.now c.args.tag c.args.handling.now c.args.show c.in-Open.head c.in-Open.frame c.in-Open.rest c.as_slice.result.now
    c.in-Open.link c.args.sent _ _ _ _ _ own c.in-Open.is c.as_slice.ensures h)
    c.stream.ensures.ok

pub returns-in-Open-clause-err : goal.returns-in-Open-clause-err
returns-in-Open-clause-err g c =
    on_err_weaker c.stream.result
    (λ h. open_part _ c.args.request.now c.args.tag c.args.handling.now c.in-Open.head c.in-Open.frame c.in-Open.rest c.as_slice.result.now
    c.in-Open.link c.args.sent _ _ _ _ c.in-Open.is c.as_slice.ensures h)
    c.stream.ensures.err
