use Rattle.bounded_buffer.proofs.RingLemmas.{ring-parts}
use Rattle.bounded_buffer.proofs.laws.rings_keep_their_parts.Goals as goal

pub returns : goal.returns
returns c = ring-parts
