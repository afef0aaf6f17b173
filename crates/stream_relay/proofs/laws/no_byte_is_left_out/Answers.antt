use Rattle.stream_relay.proofs.Ends.{told_input}
use Rattle.stream_relay.proofs.laws.no_byte_is_left_out.Goals as goal

pub returns : goal.returns
returns c = told_input
