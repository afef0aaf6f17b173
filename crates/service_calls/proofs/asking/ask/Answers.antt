use Rattle.std.proofs.Common.{◌+◌, ◌++◌, [], append-nil, subst, arith}
use Rattle.forward_link.specs.Exchange.{Exchanged, LinkState}
use Rattle.forward_link.specs.Says.{whole, bad, cut}
use Rattle.service_calls.specs.Calls.{DialState, Due}
use Rattle.service_calls.proofs.AskLemmas.{asks_answered, asks_broken, asks_not_dialed, asks_streamed, leaves_off}
use Rattle.service_calls.proofs.asking.ask.Goals as goal

pub returns-in-Ok-Whole-clause-ok : goal.returns-in-Ok-Whole-clause-ok
returns-in-Ok-Whole-clause-ok g c =
    let D = g.D.Dial in
    let due : Due = record { to = c.args.to; text = c.args.request.now } in
    let p : DialState = record { calls = D.calls c.args.dial.now; faults = D.faults c.args.dial.now; link_faults = D.link_faults c.args.dial.now } in
    let q : DialState =
    record { calls = D.calls c.exchange.new.dial; faults = D.faults c.exchange.new.dial; link_faults = D.link_faults c.exchange.new.dial } in
    asks_answered due p q (c.args.request.now ++ []) (append-nil c.args.request.now) (c.exchange.ensures.faults, c.exchange.ensures.link_faults)
    (whole c.in-Ok-Whole.head c.in-Ok-Whole.body)
    (subst (Exchanged _ _ _ _ _ _ _ _ _) c.in-Ok-Whole.field-0-is c.in-Ok-Whole.ensures.ok)

pub returns-in-Ok-Streamed-clause-ok : goal.returns-in-Ok-Streamed-clause-ok
returns-in-Ok-Streamed-clause-ok g c =
    let D = g.D.Dial in
    let K = g.D.K in
    let due : Due = record { to = c.args.to; text = c.args.request.now } in
    let p : DialState = record { calls = D.calls c.args.dial.now; faults = D.faults c.args.dial.now; link_faults = D.link_faults c.args.dial.now } in
    let q : DialState = record { calls = D.calls c.done.new.self; faults = D.faults c.done.new.self; link_faults = D.link_faults c.done.new.self } in
    let link : LinkState = record {
      left = K.Source.left c.in-Ok-Streamed.link;
      written = K.ByteSink.written c.in-Ok-Streamed.link;
      number = K.Link.number c.in-Ok-Streamed.link;
      faults = K.Source.read_faults c.in-Ok-Streamed.link + K.ByteSink.write_faults c.in-Ok-Streamed.link;
    } in
    asks_streamed due p q (c.args.request.now ++ []) (append-nil c.args.request.now)
    (omega (arith, c.exchange.ensures.faults, c.done.ensures.faults), omega (arith, c.exchange.ensures.link_faults, c.done.ensures.later))
    (D.calls c.exchange.new.dial) c.in-Ok-Streamed.head c.in-Ok-Streamed._frame c.in-Ok-Streamed.rest link
    (subst (Exchanged _ _ _ _ _ _ _ _ _) c.in-Ok-Streamed.field-0-is c.in-Ok-Streamed.ensures.ok) c.done.ensures.noted

pub returns-in-Ok-DialFailed-clause-ok : goal.returns-in-Ok-DialFailed-clause-ok
returns-in-Ok-DialFailed-clause-ok g c =
    let D = g.D.Dial in
    let due : Due = record { to = c.args.to; text = c.args.request.now } in
    let p : DialState = record { calls = D.calls c.args.dial.now; faults = D.faults c.args.dial.now; link_faults = D.link_faults c.args.dial.now } in
    let q : DialState =
    record { calls = D.calls c.exchange.new.dial; faults = D.faults c.exchange.new.dial; link_faults = D.link_faults c.exchange.new.dial } in
    let e = subst (Exchanged _ _ _ _ _ _ _ _ _) c.in-Ok-DialFailed.field-0-is c.in-Ok-DialFailed.ensures.ok in
    asks_not_dialed due p q e.0 e.1 c.exchange.ensures.link_faults

pub returns-in-Ok-BadReply-clause-ok : goal.returns-in-Ok-BadReply-clause-ok
returns-in-Ok-BadReply-clause-ok g c =
    let D = g.D.Dial in
    let due : Due = record { to = c.args.to; text = c.args.request.now } in
    let p : DialState = record { calls = D.calls c.args.dial.now; faults = D.faults c.args.dial.now; link_faults = D.link_faults c.args.dial.now } in
    let q : DialState =
    record { calls = D.calls c.exchange.new.dial; faults = D.faults c.exchange.new.dial; link_faults = D.link_faults c.exchange.new.dial } in
    asks_answered due p q (c.args.request.now ++ []) (append-nil c.args.request.now) (c.exchange.ensures.faults, c.exchange.ensures.link_faults) bad
    (subst (Exchanged _ _ _ _ _ _ _ _ _) c.in-Ok-BadReply.field-0-is c.in-Ok-BadReply.ensures.ok)

pub returns-in-Ok-Cut-clause-ok : goal.returns-in-Ok-Cut-clause-ok
returns-in-Ok-Cut-clause-ok g c =
    let D = g.D.Dial in
    let due : Due = record { to = c.args.to; text = c.args.request.now } in
    let p : DialState = record { calls = D.calls c.args.dial.now; faults = D.faults c.args.dial.now; link_faults = D.link_faults c.args.dial.now } in
    let q : DialState =
    record { calls = D.calls c.exchange.new.dial; faults = D.faults c.exchange.new.dial; link_faults = D.link_faults c.exchange.new.dial } in
    asks_answered due p q (c.args.request.now ++ []) (append-nil c.args.request.now) (c.exchange.ensures.faults, c.exchange.ensures.link_faults) cut
    (subst (Exchanged _ _ _ _ _ _ _ _ _) c.in-Ok-Cut.field-0-is c.in-Ok-Cut.ensures.ok)

pub returns-in-Ok-LinkFault-clause-ok : goal.returns-in-Ok-LinkFault-clause-ok
returns-in-Ok-LinkFault-clause-ok g c =
    let D = g.D.Dial in
    let due : Due = record { to = c.args.to; text = c.args.request.now } in
    let p : DialState = record { calls = D.calls c.args.dial.now; faults = D.faults c.args.dial.now; link_faults = D.link_faults c.args.dial.now } in
    let q : DialState =
    record { calls = D.calls c.exchange.new.dial; faults = D.faults c.exchange.new.dial; link_faults = D.link_faults c.exchange.new.dial } in
    let e = subst (Exchanged _ _ _ _ _ _ _ _ _) c.in-Ok-LinkFault.field-0-is c.in-Ok-LinkFault.ensures.ok in
    asks_broken due p q (c.args.request.now ++ []) (append-nil c.args.request.now) (c.exchange.ensures.faults, c.exchange.ensures.link_faults) e.0 e.1

pub returns-in-Err-clause-err : goal.returns-in-Err-clause-err
returns-in-Err-clause-err g c =
    let D = g.D.Dial in
    let due : Due = record { to = c.args.to; text = c.args.request.now } in
    let p : DialState = record { calls = D.calls c.args.dial.now; faults = D.faults c.args.dial.now; link_faults = D.link_faults c.args.dial.now } in
    let q : DialState =
    record { calls = D.calls c.exchange.new.dial; faults = D.faults c.exchange.new.dial; link_faults = D.link_faults c.exchange.new.dial } in
    leaves_off due p q (c.args.request.now ++ []) (append-nil c.args.request.now) (c.exchange.ensures.faults, c.exchange.ensures.link_faults)
    c.in-Err.ensures.err
