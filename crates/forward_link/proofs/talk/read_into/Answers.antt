use Rattle.std.proofs.Common.{◌≡◌, Some, arith, refl, sym, ap, ◌∙◌}
use Rattle.std.proofs.lemmas.Result.{IfOk-weaker}
use Rattle.forward_link.specs.declared.reply.ReplyStop.TheVariants as reply_stop
use Rattle.forward_link.proofs.TalkLemmas.{came_stream, came_whole, body_stops, head_stops, stops_status, stops_reply, final_status}
use Rattle.forward_link.proofs.ReadingLemmas.{rose_same}
use Rattle.forward_link.proofs.talk.read_into.Goals as goal

pub returns-in-Err-clause-ok : goal.returns-in-Err-clause-ok
returns-in-Err-clause-ok g c =
    IfOk-weaker c.stopped.result _ _ (λ t z. head_stops c.args.is_head c.args.streamed _ _ _ c.in-Err.stop t c.in-Err.ensures.err z) c.stopped.ensures.ok

pub returns-in-Err-clause-status : goal.returns-in-Err-clause-status
returns-in-Err-clause-status g c = IfOk-weaker c.stopped.result _ _ (λ t z. stops_status c.in-Err.stop t z) c.stopped.ensures.ok

pub returns-in-Err-clause-calm : goal.returns-in-Err-clause-calm
returns-in-Err-clause-calm g c = IfOk-weaker c.stopped.result _ _ (λ t z. stops_reply _ c.in-Err.stop t z) c.stopped.ensures.ok

pub returns-in-None-clause-ok : goal.returns-in-None-clause-ok
returns-in-None-clause-ok g c =
    came_stream c.args.is_head c.args.streamed _ _ c.final_head.new.intake c.in_ok-rest-in-None.rest c.in-Ok.found c.in-Ok.ensures.ok (sym c.whole_size.ensures ∙ c.in-None.is) c.in_ok-rest-in-None.ensures

pub returns-in-None-clause-status : goal.returns-in-None-clause-status
returns-in-None-clause-status g c = final_status c.args.is_head c.in-Ok.found.head c.in-Ok.found.frame c.in-Ok.ensures.ok.kind

pub returns-in-Ok-whole_body-clause-ok : goal.returns-in-Ok-whole_body-clause-ok
returns-in-Ok-whole_body-clause-ok g c =
    came_whole c.args.is_head c.args.streamed _ _ _ c.final_head.new.intake c.as_slice.result.now c.in-Ok.found c.in-Some.size c.in-Ok.ensures.ok
    (sym c.whole_size.ensures ∙ c.in-Some.is) c.as_slice.ensures.value _ _ c.new.ensures c.in-Ok-whole_body.ensures.ok

pub returns-in-Ok-whole_body-clause-status : goal.returns-in-Ok-whole_body-clause-status
returns-in-Ok-whole_body-clause-status g c = final_status c.args.is_head c.in-Ok.found.head c.in-Ok.found.frame c.in-Ok.ensures.ok.kind

pub returns-in-Ok-whole_body-clause-calm : goal.returns-in-Ok-whole_body-clause-calm
returns-in-Ok-whole_body-clause-calm g c = λ e. c.in-Ok-whole_body.ensures.calm ∙ c.in-Ok.ensures.calm

pub returns-in-Err-whole_body-clause-ok : goal.returns-in-Err-whole_body-clause-ok
returns-in-Err-whole_body-clause-ok g c =
    IfOk-weaker c.stopped-in-Err-whole_body.result _ _
    (λ t z. body_stops c.args.is_head c.args.streamed _ _ _ c.final_head.new.intake c.as_slice.result.now c.in-Ok.found c.in-Some.size c.in-Ok.ensures.ok
    (sym c.whole_size.ensures ∙ c.in-Some.is) c.as_slice.ensures.value _ _ c.in-Err-whole_body.stop t (rose_same _ _ _ c.in-Ok.ensures.calm) c.in-Err-whole_body.ensures.err z)
    c.stopped-in-Err-whole_body.ensures.ok

pub returns-in-Err-whole_body-clause-status : goal.returns-in-Err-whole_body-clause-status
returns-in-Err-whole_body-clause-status g c =
    IfOk-weaker c.stopped-in-Err-whole_body.result _ _ (λ t z. stops_status (reply_stop.Input c.in-Err-whole_body.stop) t z) c.stopped-in-Err-whole_body.ensures.ok

pub returns-in-Err-whole_body-clause-calm : goal.returns-in-Err-whole_body-clause-calm
returns-in-Err-whole_body-clause-calm g c =
    IfOk-weaker c.stopped-in-Err-whole_body.result _ _ (λ t z. stops_reply _ (reply_stop.Input c.in-Err-whole_body.stop) t z) c.stopped-in-Err-whole_body.ensures.ok
