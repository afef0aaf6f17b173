use Rattle.std.proofs.Common.{[], ◌++◌, append-nil}
use Rattle.service_calls.specs.Calls.{DialState, Due}
use Rattle.service_calls.proofs.FetchLemmas.{answers_by}
use Rattle.service_calls.proofs.fetching.fetch_reply.Goals as goal

pub returns-in-Ok-clause-ok : goal.returns-in-Ok-clause-ok
returns-in-Ok-clause-ok g c =
    let due : Due = record { to = c.args.to; text = c.args.request.now } in
    let m : DialState = record {
      calls = g.D.Dial.calls c.args.dial.now;
      faults = g.D.Dial.faults c.args.dial.now;
      link_faults = g.D.Dial.link_faults c.args.dial.now;
    } in
    c.fetched_by.ensures.ok due m c.exchange.ensures.link_faults
    (answers_by _ due m _ (c.args.request.now ++ []) c.in-Ok.answer (append-nil c.args.request.now) c.in-Ok.ensures.ok)

pub returns-in-Ok-clause-err : goal.returns-in-Ok-clause-err
returns-in-Ok-clause-err g c =
    let due : Due = record { to = c.args.to; text = c.args.request.now } in
    let m : DialState = record {
      calls = g.D.Dial.calls c.args.dial.now;
      faults = g.D.Dial.faults c.args.dial.now;
      link_faults = g.D.Dial.link_faults c.args.dial.now;
    } in
    c.fetched_by.ensures.err due m
    (answers_by _ due m _ (c.args.request.now ++ []) c.in-Ok.answer (append-nil c.args.request.now) c.in-Ok.ensures.ok)
