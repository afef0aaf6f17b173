use Rattle.std.proofs.Common.{refl}
use Rattle.stream_relay.proofs.Hands.{broken_at, fed_nothing, fed_cut}
use Rattle.stream_relay.proofs.hand.hand_one.Goals as goal

pub returns-in-Err-clause-err : goal.returns-in-Err-clause-err
returns-in-Err-clause-err g c = broken_at c.args.chunked _ _ _ _ c.in-Err.fault c.in-Err.ensures.err

pub returns-then-fed-clause-ok : goal.returns-then-fed-clause-ok
returns-then-fed-clause-ok g c =
    fed_nothing c.args.chunked c.args.decoder.now c.feed.new.self c.args.bytes.now c.in-Ok.fed.taken c.in-Ok.fed.from c.in-Ok.fed.to _
    c.if-fed.true c.in-Ok.ensures.took

pub returns-in-Err-pass_on-clause-err : goal.returns-in-Err-pass_on-clause-err
returns-in-Err-pass_on-clause-err g c = (
  fed_cut c.args.chunked c.args.decoder.now c.feed.new.self c.args.bytes.now _ c.in-Ok.fed.taken c.in-Ok.fed.from c.in-Ok.fed.to _ _ refl
      c.in-Ok.ensures.took c.in-Err-pass_on.ensures.err,
  c.in-Err-pass_on.ensures.why,
)
