use Rattle.std.proofs.Common.{◌∙◌, sym, arith}
use Rattle.front_ports.specs.Cause.{Rose}
use Rattle.service_calls.proofs.LinkLemmas.{told_kept, mark_kept, sent_same}
use Rattle.service_calls.proofs.FetchLemmas.{on_err, streams_ends, streams_stopped, streams_then}
use Rattle.service_calls.proofs.fetching.streamed.Goals as goal

pub returns-in_err-end-clause-err : goal.returns-in_err-end-clause-err
returns-in_err-end-clause-err g c =
    let link = c.relay-relayed.new.link in
    let aside = sym (g.met.D.K.Link.outward_is link) ∙ c.relay-relayed.ensures.aside ∙ g.met.D.K.Link.outward_is c.args.link in
    let sent = sent_same _ _ (g.D.K.Link.number c.args.link) (g.D.K.Link.number link) _ _ (told_kept _ _ aside) (mark_kept _ _ aside) c.done.ensures.noted in
    on_err _ _
    (streams_stopped c.blocks_stay.ensures.found c.blocks_are_bounded.ensures c.bodies_end_one_way.ensures.one c.args.head.now
    c.args.frame _ c.args.rest.now _ (g.D.K.Source.left link) _ _ _ _ c.new-keep.result c.relay-relayed.new.keep
    (Rose (g.D.K.Source.read_faults c.args.link) (g.D.K.Source.read_faults link)) (Unit {0}) (λ rose. c.done.ensures.faulty (omega (arith, rose))) sent
    c.in_err-end.ensures.err)

pub returns-clause-ok : goal.returns-clause-ok
returns-clause-ok g c =
    let link = c.relay-relayed.new.link in
    let aside = sym (g.met.D.K.Link.outward_is link) ∙ c.relay-relayed.ensures.aside ∙ g.met.D.K.Link.outward_is c.args.link in
    let sent = sent_same _ _ (g.D.K.Link.number c.args.link) (g.D.K.Link.number link) _ _ (told_kept _ _ aside) (mark_kept _ _ aside) c.done.ensures.noted in
    streams_ends c.blocks_stay.ensures.found c.blocks_are_bounded.ensures c.bodies_end_one_way.ensures.one c.args.head.now
    c.args.frame _ c.args.rest.now _ (g.D.K.Source.left link) _ _ _ _ c.new-keep.result c.relay-relayed.new.keep _ _
    (λ rose. c.done.ensures.faulty (omega (arith, rose))) sent (λ h. absurd (omega (arith, h))) c.new-keep.ensures c.in_ok-end.end c.ended.result
    c.ended.ensures.done c.ended.ensures.cut c.in_ok-end.ensures.ok

pub returns-clause-err : goal.returns-clause-err
returns-clause-err g c =
    let link = c.relay-relayed.new.link in
    let aside = sym (g.met.D.K.Link.outward_is link) ∙ c.relay-relayed.ensures.aside ∙ g.met.D.K.Link.outward_is c.args.link in
    let sent = sent_same _ _ (g.D.K.Link.number c.args.link) (g.D.K.Link.number link) _ _ (told_kept _ _ aside) (mark_kept _ _ aside) c.done.ensures.noted in
    on_err c.ended.result _
    (streams_then c.blocks_stay.ensures.found c.blocks_are_bounded.ensures c.bodies_end_one_way.ensures.one c.args.head.now
    c.args.frame _ c.args.rest.now _ (g.D.K.Source.left link) _ _ _ _ c.new-keep.result c.relay-relayed.new.keep _ _
    (λ rose. c.done.ensures.faulty (omega (arith, rose))) sent c.in_ok-end.end (λ h. absurd (omega (arith, h))) c.in_ok-end.ensures.ok)
