use Rattle.serve_config.proofs.SinkLemmas.{off_where_none}
use Rattle.serve_config.proofs.laws.a_sink_is_off_where_it_has_no_name.Goals as goal

pub returns : goal.returns
returns c = off_where_none
