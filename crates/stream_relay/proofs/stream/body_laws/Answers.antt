use Rattle.stream_relay.proofs.stream.body_laws.Goals as goal

pub returns : goal.returns
returns c = record {
  done = c.decoded_bodies.ensures.done;
  ends = c.decoded_bodies.ensures.ends;
  itself = c.decoded_bodies.ensures.itself;
  whole = c.decoded_bodies.ensures.whole;
  awaits = c.decoded_bodies.ensures.awaits;
  only = c.refused_bodies.ensures.only;
  stays = c.first_bodies.ensures.refused;
}
