use Rattle.std.proofs.Common.{refl, ap, ◌∙◌}
use Rattle.body_frames.specs.Decoded.{Decoded}
use Rattle.body_frames.specs.Machine.{start, run, emitted}
use Rattle.body_frames.specs.declared.frame.Frame.{Frame}
use Rattle.stream_relay.specs.Stream.{body_in}
use Rattle.stream_relay.specs.declared.stream.TheConstants.{MOST_STREAMED_BYTES}
use Rattle.stream_relay.proofs.Bytes.{emitted_more, decoded_end, done_closed}
use Rattle.stream_relay.proofs.Sizes.{body_fits}
use Rattle.stream_relay.proofs.laws.bodies_are_relayed_whole.Goals as goal

pub returns-clause-whole : goal.returns-clause-whole
returns-clause-whole c = λ frame input body after s.
    let begin = start frame MOST_STREAMED_BYTES in
    let decoded : Decoded frame MOST_STREAMED_BYTES s.text (emitted begin s.text) (run begin s.text) = record { at = refl; gave = refl } in
    let done = c.decoded_bodies.ensures.itself frame MOST_STREAMED_BYTES s.text body (emitted begin s.text) (run begin s.text) s.is s.itself decoded in
    ap (body_in frame) s.split
    ∙ decoded_end frame MOST_STREAMED_BYTES s.text after (emitted begin s.text) (run begin s.text) decoded (done_closed (run begin s.text) done)
    ∙ (c.decoded_bodies.ensures.whole frame MOST_STREAMED_BYTES s.text body (emitted begin s.text) (run begin s.text) s.is decoded).1

pub returns-clause-close : goal.returns-clause-close
returns-clause-close c = λ input few.
    let begin = start Frame.Close MOST_STREAMED_BYTES in
    (c.decoded_bodies.ensures.whole Frame.Close MOST_STREAMED_BYTES input input (emitted begin input) (run begin input) (refl, few)
    (record { at = refl; gave = refl })).1

pub returns-clause-part : goal.returns-clause-part
returns-clause-part c = λ frame input more.
    let begin = start frame MOST_STREAMED_BYTES in
    (emitted (run begin input) more, emitted_more begin input more)

pub returns-clause-fits : goal.returns-clause-fits
returns-clause-fits c = body_fits
