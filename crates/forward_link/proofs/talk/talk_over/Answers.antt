use Rattle.std.proofs.Common.{◌≡◌, ◌++◌, arith, refl, sym, ◌∙◌}
use Rattle.std.proofs.lemmas.Result.{IfOk-weaker}
use Rattle.forward_link.proofs.TalkLemmas.{same_told, same_number, same_faults, rose_some, on_err, talks_by, front_of_all, appends_to}
use Rattle.forward_link.proofs.talk.talk_over.Goals as goal

pub returns-in-Err-clause-ok : goal.returns-in-Err-clause-ok
returns-in-Err-clause-ok g c = (c.in-Err.ensures.err, omega (arith, c.in-Err.ensures.fault))

pub returns-in-Err-clause-number : goal.returns-in-Err-clause-number
returns-in-Err-clause-number g c =
    same_number _ _ _ _ (sym (g.met.K.Link.inward_is c.send.new.link) ∙ c.send.ensures.aside ∙ g.met.K.Link.inward_is c.args.link.now) refl refl

pub returns-clause-ok : goal.returns-clause-ok
returns-clause-ok g c =
    let before = sym (g.met.K.Link.inward_is c.send.new.link) ∙ c.send.ensures.aside ∙ g.met.K.Link.inward_is c.args.link.now in
    let after = sym (g.met.K.Link.outward_is c.read_reply.new.link) ∙ c.read_reply.ensures.aside ∙ g.met.K.Link.outward_is c.send.new.link in
    IfOk-weaker c.read_reply.result _ _ (λ t k.
    talks_by c.args.is_head c.args.streamed _ _ _ _ _ _ (c.args.head.now ++ c.args.body.now) _ _ _ (same_told _ _ before) (same_told _ _ after)
    (λ r. omega (arith, rose_some _ _ r)) c.in-Ok.ensures.ok k) c.read_reply.ensures.ok

pub returns-clause-number : goal.returns-clause-number
returns-clause-number g c =
    let before = sym (g.met.K.Link.inward_is c.send.new.link) ∙ c.send.ensures.aside ∙ g.met.K.Link.inward_is c.args.link.now in
    let after = sym (g.met.K.Link.outward_is c.read_reply.new.link) ∙ c.read_reply.ensures.aside ∙ g.met.K.Link.outward_is c.send.new.link in
    same_number _ _ _ _ after refl refl ∙ same_number _ _ _ _ before refl refl

pub returns-in-Err-clause-calm : goal.returns-in-Err-clause-calm
returns-in-Err-clause-calm g c = λ e. absurd (cc e)

pub returns-clause-err : goal.returns-clause-err
returns-clause-err g c =
    let after = sym (g.met.K.Link.outward_is c.read_reply.new.link) ∙ c.read_reply.ensures.aside ∙ g.met.K.Link.outward_is c.send.new.link in
    let text = c.args.head.now ++ c.args.body.now in
    on_err c.read_reply.result _ (front_of_all _ _ text (appends_to _ _ _ text (same_told _ _ after) c.in-Ok.ensures.ok))

pub returns-clause-status : goal.returns-clause-status
returns-clause-status g c = c.read_reply.ensures.status

pub returns-clause-calm : goal.returns-clause-calm
returns-clause-calm g c =
    let before = sym (g.met.K.Link.inward_is c.send.new.link) ∙ c.send.ensures.aside ∙ g.met.K.Link.inward_is c.args.link.now in
    let after = sym (g.met.K.Link.outward_is c.read_reply.new.link) ∙ c.read_reply.ensures.aside ∙ g.met.K.Link.outward_is c.send.new.link in
    IfOk-weaker c.read_reply.result _ _ (λ t h e. (h e ∙ same_faults _ _ before, same_faults _ _ after ∙ c.in-Ok.ensures.calm)) c.read_reply.ensures.calm
