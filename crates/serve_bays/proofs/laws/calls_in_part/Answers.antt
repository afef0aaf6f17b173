use Rattle.serve_bays.proofs.CallLemmas.{part_none, part_whole, part_less, part_more}
use Rattle.serve_bays.proofs.laws.calls_in_part.Goals as goal

pub returns : goal.returns
returns c = record { none = part_none; whole = part_whole; less = part_less; more = part_more }
