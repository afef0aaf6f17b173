use Rattle.std.proofs.Common.{◌<◌, length, refl, arith}
use Rattle.stream_relay.proofs.Hands.{read_nothing, some_read}
use Rattle.stream_relay.proofs.hand.read_one.Goals as goal

pub returns-in-Err-clause-err : goal.returns-in-Err-clause-err
returns-in-Err-clause-err g c = (record { place = refl; output = refl }, c.in-Err.ensures.bytes, c.in-Err.ensures.cause.failed)

pub returns-then-count-eq0-clause-err : goal.returns-then-count-eq0-clause-err
returns-then-count-eq0-clause-err g c =
    let room : 0 < length c.read.new.buf = omega (arith, c.requires, c.read.auto.buf) in (
      record { place = refl; output = refl },
      read_nothing _ _ c.in-Ok.count c.read.new.buf c.if-count-eq0.true c.in-Ok.ensures.bytes.0,
      c.in-Ok.ensures.bytes.1 c.if-count-eq0.true room,
    )

pub returns-in-Ok-hand_on-clause-ok : goal.returns-in-Ok-hand_on-clause-ok
returns-in-Ok-hand_on-clause-ok g c = record {
  piece = _;
  count = c.in-Ok-hand_on.field-0;
  consumed = c.in-Ok.ensures.bytes.0;
  hands = c.in-Ok-hand_on.ensures.ok;
  used = c.in-Ok-hand_on.ensures.all;
}

pub returns-in-Ok-hand_on-clause-falls : goal.returns-in-Ok-hand_on-clause-falls
returns-in-Ok-hand_on-clause-falls g c =
    c.in-Ok-hand_on.ensures.falls (some_read c.in-Ok.count c.read.new.buf c.in-Ok.ensures.bound.0 c.if-count-eq0.false)

pub returns-in-Err-hand_on-clause-err : goal.returns-in-Err-hand_on-clause-err
returns-in-Err-hand_on-clause-err g c = (_, c.in-Ok.ensures.bytes.0, c.in-Err-hand_on.ensures.err)
