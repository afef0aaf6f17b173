use Rattle.std.proofs.Common.{[], ◌∙◌, sym, subst, arith}
use Rattle.front_ports.specs.Cause.{Rose}
use Rattle.stream_relay.specs.Keep.{Keeps}
use Rattle.exchange_replies.proofs.LinkLemmas.{told_kept, mark_kept, sent_same}
use Rattle.exchange_replies.proofs.StreamLemmas.{on_err, streamed_whole, streamed_then, streamed_part}
use Rattle.exchange_replies.proofs.streaming.stream.Goals as goal

pub returns-in_err-end-clause-err : goal.returns-in_err-end-clause-err
returns-in_err-end-clause-err g c =
    let link = c.hand_on-handed.new.link in
    let aside = sym (g.met.D.K.Link.outward_is link) ∙ c.hand_on-handed.ensures.aside ∙ g.met.D.K.Link.outward_is c.args.link in
    let sent = sent_same _ _ (g.D.K.Link.number c.args.link) (g.D.K.Link.number link) _ _ (told_kept _ _ aside) (mark_kept _ _ aside) c.done.ensures.noted in
    on_err _ _ (streamed_part c.blocks_stay.ensures.found c.blocks_are_bounded.ensures c.args.request.now c.args.tag c.args.head.now c.args.frame
    c.args.rest.now c.args.show _ (g.D.K.Source.left link) _ _ _ _ c.new-keep.result c.hand_on-handed.new.keep
    (Rose (g.D.K.Source.read_faults c.args.link) (g.D.K.Source.read_faults link)) (Unit {0})
    (λ rose. c.done.ensures.faulty (omega (arith, rose))) sent c.in_err-end.ensures.err)

pub returns-in_err-kept-clause-err : goal.returns-in_err-kept-clause-err
returns-in_err-kept-clause-err g c =
    let link = c.hand_on-handed.new.link in
    let aside = sym (g.met.D.K.Link.outward_is link) ∙ c.hand_on-handed.ensures.aside ∙ g.met.D.K.Link.outward_is c.args.link in
    let sent = sent_same _ _ (g.D.K.Link.number c.args.link) (g.D.K.Link.number link) _ _ (told_kept _ _ aside) (mark_kept _ _ aside) c.done.ensures.noted in
    on_err _ _ (streamed_then c.blocks_stay.ensures.found c.blocks_are_bounded.ensures c.args.request.now c.args.tag c.args.head.now c.args.frame
    c.args.rest.now c.args.show _ (g.D.K.Source.left link) _ _ _ _ c.new-keep.result c.hand_on-handed.new.keep _ _
    (λ rose. c.done.ensures.faulty (omega (arith, rose))) sent c.in_ok-end.end c.in_ok-end.ensures.ok)

pub returns-clause-ok : goal.returns-clause-ok
returns-clause-ok g c =
    let link = c.hand_on-handed.new.link in
    let aside = sym (g.met.D.K.Link.outward_is link) ∙ c.hand_on-handed.ensures.aside ∙ g.met.D.K.Link.outward_is c.args.link in
    let sent = sent_same _ _ (g.D.K.Link.number c.args.link) (g.D.K.Link.number link) _ _ (told_kept _ _ aside) (mark_kept _ _ aside) c.done.ensures.noted in
    streamed_whole c.blocks_stay.ensures.found c.blocks_are_bounded.ensures c.args.request.now c.args.tag c.args.head.now c.args.frame
    c.args.rest.now c.args.show _ (g.D.K.Source.left link) _ _ _ _ c.new-keep.result c.hand_on-handed.new.keep _ _
    (λ rose. c.done.ensures.faulty (omega (arith, rose))) sent c.in_ok-end.end c.in_ok-kept.kept
    (subst (λ b. Keeps b [] c.new-keep.result) c.is_due.ensures c.new-keep.ensures) c.in_ok-kept.ensures c.in_ok-end.ensures.ok
