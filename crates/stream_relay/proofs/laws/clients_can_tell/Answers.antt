use Rattle.stream_relay.proofs.Clients.{none_at_cut, none_within_piece, none_within_end}
use Rattle.stream_relay.proofs.Sizes.{length_whole, length_cut}
use Rattle.stream_relay.proofs.laws.clients_can_tell.Goals as goal

pub returns-clause-cut : goal.returns-clause-cut
returns-clause-cut c = none_at_cut c.first_bodies.ensures.one c.written_chunks.ensures

pub returns-clause-within : goal.returns-clause-within
returns-clause-within c = none_within_piece c.first_bodies.ensures.one c.written_chunks.ensures

pub returns-clause-last : goal.returns-clause-last
returns-clause-last c = none_within_end c.first_bodies.ensures.one c.written_chunks.ensures

pub returns-clause-length : goal.returns-clause-length
returns-clause-length c = length_whole c.bodies_are_relayed_whole.ensures.whole

pub returns-clause-short : goal.returns-clause-short
returns-clause-short c = length_cut
