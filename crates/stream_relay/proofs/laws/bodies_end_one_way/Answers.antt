use Rattle.std.proofs.Common.{refl}
use Rattle.stream_relay.specs.Stream.{end_of}
use Rattle.stream_relay.specs.declared.stream.TheConstants.{MOST_STREAMED_BYTES}
use Rattle.stream_relay.proofs.laws.bodies_end_one_way.Goals as goal

pub returns-clause-some : goal.returns-clause-some
returns-clause-some c = λ frame input.
    let first = c.first_bodies.ensures.some frame MOST_STREAMED_BYTES input in
    (end_of frame first.0, record { first = first.0; stands = first.1; end_is = refl })
