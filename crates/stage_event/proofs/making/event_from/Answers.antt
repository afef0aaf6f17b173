use Rattle.std.proofs.Common.{refl, ap, ◌∙◌}
use Rattle.stage_event.specs.Views.{shown_if}
use Rattle.stage_event.specs.Events.{request_object, response_object}
use Rattle.stage_event.proofs.ViewLemmas.{event_parts}
use Rattle.stage_event.proofs.making.event_from.Goals as goal

pub returns : goal.returns
returns c =
    let facts = c.args.facts in
    event_parts c.args.stage c.args.level facts _ _ _ _ _ _ _ _ _ _ c.requires.level refl c.asked_of-verb.ensures.verb refl refl refl
    c.asked_of-verb.ensures.object c.code-code.ensures
    (c.request_object_from.ensures
    ∙ ap (λ b. request_object c.args.stage (shown_if b facts.request)) c.request_due-shows_request.ensures)
    (c.response_object_from.ensures
    ∙ ap (λ b. response_object c.args.stage (shown_if b facts.reply)) c.reply_due-shows_reply.ensures)
    c.moment-at.ensures
