use Rattle.exchange_replies.specs.Sent.{is_head}
use Rattle.session_core.proofs.ChainLemmas.{on_err}
use Rattle.session_core.proofs.ReplyLemmas.{begins, replied, start-offered, halts_start, halts_write, halts_end, may_end}
use Rattle.session_core.proofs.replying.reply.Goals as goal

pub returns-in-Err-clause-err : goal.returns-in-Err-clause-err
returns-in-Err-clause-err g c =
    halts_start c.offers_join.ensures c.later_stages_refuse_nothing.ensures c.stages_hide.ensures.started
    c.args.settings.now _ c.args.request.now c.args.handling.now c.args.sent _ _ _ _ _ _ _ _ c.in-Err.ensures.err
    (c.give_back.ensures.back (is_head c.args.request.now))

pub write_reply-requires-clause-started : goal.write_reply-requires-clause-started
write_reply-requires-clause-started g c = start-offered c.args.settings.now _ _ _ _ c.in-Ok.ensures.ok

pub returns-in_err-replied-clause-err : goal.returns-in_err-replied-clause-err
returns-in_err-replied-clause-err g c =
    on_err _ _ (halts_write c.offers_join.ensures c.later_stages_refuse_nothing.ensures c.stages_hide.ensures.started
    c.args.settings.now _ c.args.request.now c.args.handling.now c.args.sent _ _ _ _ _ _
    (begins c.offers_join.ensures c.later_stages_refuse_nothing.ensures c.stages_hide.ensures.started c.args.settings.now _ _ _ _ _ c.in-Ok.ensures.ok)
    _ _ _ c.in_err-replied.ensures.err)

pub complete-requires : goal.complete-requires
complete-requires g c = record {
  offer = may_end c.lanes_stay.ensures.lanes c.lanes_stay.ensures.log c.lanes_stay.ensures.hook c.offers_join.ensures c.later_stages_refuse_nothing.ensures c.stages_hide.ensures.started
      c.args.settings.now _ _ _ _ c.requires.offer
      (begins c.offers_join.ensures c.later_stages_refuse_nothing.ensures c.stages_hide.ensures.started c.args.settings.now _ _ _ _ _ c.in-Ok.ensures.ok);
}

pub returns-in_err-complete-clause-err : goal.returns-in_err-complete-clause-err
returns-in_err-complete-clause-err g c =
    on_err _ _ (halts_end c.offers_join.ensures c.later_stages_refuse_nothing.ensures c.stages_hide.ensures.started
    c.args.settings.now _ c.args.request.now c.args.handling.now c.args.sent _ _ _ _ _ _
    (begins c.offers_join.ensures c.later_stages_refuse_nothing.ensures c.stages_hide.ensures.started c.args.settings.now _ _ _ _ _ c.in-Ok.ensures.ok)
    _ _ _ _ c.reply_show-show.ensures c.in_ok-replied.replied.end c.in_ok-replied.replied.kept c.in_ok-replied.ensures.ok
    _ _ _ c.set_reply.ensures c.in_err-complete.ensures.err)

pub returns-clause-ok : goal.returns-clause-ok
returns-clause-ok g c =
    replied c.offers_join.ensures c.later_stages_refuse_nothing.ensures c.stages_hide.ensures.started
    c.args.settings.now _ c.args.request.now c.args.handling.now c.args.sent _ _ _ _ _ _
    (begins c.offers_join.ensures c.later_stages_refuse_nothing.ensures c.stages_hide.ensures.started c.args.settings.now _ _ _ _ _ c.in-Ok.ensures.ok)
    _ _ _ _ c.reply_show-show.ensures c.in_ok-replied.replied.end c.in_ok-replied.replied.kept c.in_ok-replied.ensures.ok
    _ _ _ c.set_reply.ensures c.in_ok-complete.ensures.ok
