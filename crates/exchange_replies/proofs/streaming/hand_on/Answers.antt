use Rattle.std.proofs.Common.{◌≡◌, List, ℕ, ◌∙◌, subst, arith}
use Rattle.std.proofs.KnownBytes.{Appends-nil}
use Rattle.std.proofs.lemmas.Result.{IfOk-weaker, on_err_weaker}
use Rattle.exchange_replies.specs.Streams.{stream_head}
use Rattle.exchange_replies.proofs.StreamLemmas.{on_err, handed, part, head_cut, no_head}
use Rattle.front_ports.specs.Written.{AppendsFront}
use Rattle.std.specs.Io.KnownBytes.{Appends}
use Rattle.exchange_replies.proofs.streaming.hand_on.Goals as goal

pub returns-in_err-text-clause-err : goal.returns-in_err-text-clause-err
returns-in_err-text-clause-err g c =
    on_err _ _ (no_head c.args.request.now c.args.tag c.args.head.now c.args.frame c.bodies_end_one_way.ensures.some
    c.bodies_are_relayed_whole.ensures.fits c.args.rest.now _ _ _ (0, Appends-nil _))

pub returns-in-Cut-clause-ok : goal.returns-in-Cut-clause-ok
returns-in-Cut-clause-ok g c =
    let is : c.as_slice.result.now ≡ stream_head c.args.request.now c.args.tag c.args.head.now c.args.frame =
    c.as_slice.ensures.value ∙ c.in_ok-text.ensures in
    head_cut c.args.request.now c.args.tag c.args.head.now c.args.frame c.bodies_end_one_way.ensures.some
    c.bodies_are_relayed_whole.ensures.fits c.args.rest.now _ _ _ _ _ _
    (subst (λ (l : List ℕ). AppendsFront (g.O.ByteSink.written c.args.out.now) (g.O.ByteSink.written c.put_text.new.out) l) is c.in-Cut.ensures.wrote.0)
    c.in-Cut.ensures.wrote.1

pub returns-clause-ok : goal.returns-clause-ok
returns-clause-ok g c =
    let is : c.as_slice.result.now ≡ stream_head c.args.request.now c.args.tag c.args.head.now c.args.frame =
    c.as_slice.ensures.value ∙ c.in_ok-text.ensures in
    IfOk-weaker c.relay.result _ _
    (λ end z. handed c.args.request.now c.args.tag c.args.head.now c.args.frame c.bodies_end_one_way.ensures.some
    c.bodies_are_relayed_whole.ensures.fits c.args.rest.now _ _ _ _ _ _ _
    (subst (λ (l : List ℕ). Appends (g.O.ByteSink.written c.args.out.now) (g.O.ByteSink.written c.put_text.new.out) l) is c.in-Whole.ensures.wrote)
    _ _ _ end (λ rose. omega (arith, rose, c.put_text.ensures.later)) z) c.relay.ensures.ok

pub returns-clause-err : goal.returns-clause-err
returns-clause-err g c =
    let is : c.as_slice.result.now ≡ stream_head c.args.request.now c.args.tag c.args.head.now c.args.frame =
    c.as_slice.ensures.value ∙ c.in_ok-text.ensures in
    on_err_weaker c.relay.result
    (λ z. part c.args.request.now c.args.tag c.args.head.now c.args.frame c.bodies_end_one_way.ensures.some
    c.bodies_are_relayed_whole.ensures.fits c.args.rest.now _ _ _ _ _ _ _
    (subst (λ (l : List ℕ). Appends (g.O.ByteSink.written c.args.out.now) (g.O.ByteSink.written c.put_text.new.out) l) is c.in-Whole.ensures.wrote)
    z) c.relay.ensures.err
