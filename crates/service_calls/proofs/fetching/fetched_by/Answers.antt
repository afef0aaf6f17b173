use Rattle.std.proofs.Common.{ℕ, ◌+◌, List, subst}
use Rattle.std.specs.Prelude.{IfOk, OnErr}
use Rattle.std.proofs.lemmas.Result.{IfOk-weaker, on_err_weaker}
use Rattle.forward_link.specs.Exchange.{LinkState}
use Rattle.service_calls.specs.Calls.{DialState}
use Rattle.service_calls.specs.Fetched.{Streams, StreamsPart}
use Rattle.service_calls.proofs.FetchLemmas.{fetches_bad, fetches_cut, fetches_streamed, fetches_whole, stops_streamed}
use Rattle.service_calls.proofs.fetching.fetched_by.Goals as goal

pub returns-in-Whole-clause-ok : goal.returns-in-Whole-clause-ok
returns-in-Whole-clause-ok g c = λ due m later by.
    let a = rw c.in-Whole.is at by in
    fetches_whole due m _ c.in-Whole.head c.in-Whole.body a

pub returns-in-Streamed-clause-ok : goal.returns-in-Streamed-clause-ok
returns-in-Streamed-clause-ok g c = λ due m later by.
    let a = rw c.in-Streamed.is at by in
    let link : LinkState = record {
      left = g.D.K.Source.left c.in-Streamed.link;
      written = g.D.K.ByteSink.written c.in-Streamed.link;
      number = g.D.K.Link.number c.in-Streamed.link;
      faults = g.D.K.Source.read_faults c.in-Streamed.link + g.D.K.ByteSink.write_faults c.in-Streamed.link;
    } in
    let k : DialState = record {
      calls = g.D.Dial.calls c.args.dial.now;
      faults = g.D.Dial.faults c.args.dial.now;
      link_faults = g.D.Dial.link_faults c.args.dial.now;
    } in
    let n : DialState = record {
      calls = g.D.Dial.calls c.streamed.new.dial;
      faults = g.D.Dial.faults c.streamed.new.dial;
      link_faults = g.D.Dial.link_faults c.streamed.new.dial;
    } in
    IfOk-weaker c.streamed.result _ _
    (λ got s. fetches_streamed due m k n c.in-Streamed.head c.in-Streamed.frame c.in-Streamed.rest link got later a s)
    (subst (λ (rest : List ℕ). IfOk c.streamed.result (Streams c.in-Streamed.head c.in-Streamed.frame rest link k n))
    c.as_slice.ensures c.streamed.ensures.ok)

pub returns-in-Streamed-clause-err : goal.returns-in-Streamed-clause-err
returns-in-Streamed-clause-err g c = λ due m by.
    let a = rw c.in-Streamed.is at by in
    let link : LinkState = record {
      left = g.D.K.Source.left c.in-Streamed.link;
      written = g.D.K.ByteSink.written c.in-Streamed.link;
      number = g.D.K.Link.number c.in-Streamed.link;
      faults = g.D.K.Source.read_faults c.in-Streamed.link + g.D.K.ByteSink.write_faults c.in-Streamed.link;
    } in
    let k : DialState = record {
      calls = g.D.Dial.calls c.args.dial.now;
      faults = g.D.Dial.faults c.args.dial.now;
      link_faults = g.D.Dial.link_faults c.args.dial.now;
    } in
    let n : DialState = record {
      calls = g.D.Dial.calls c.streamed.new.dial;
      faults = g.D.Dial.faults c.streamed.new.dial;
      link_faults = g.D.Dial.link_faults c.streamed.new.dial;
    } in
    on_err_weaker c.streamed.result
    (λ s. stops_streamed due m k n c.in-Streamed.head c.in-Streamed.frame c.in-Streamed.rest link a s)
    (subst (λ (rest : List ℕ). OnErr c.streamed.result (StreamsPart c.in-Streamed.head c.in-Streamed.frame rest link k n))
    c.as_slice.ensures c.streamed.ensures.err)
