use Rattle.avail_probe.proofs.LastLemmas.{same_kept, same_wish}
use Rattle.avail_probe.proofs.laws.earlier_probes_decide_nothing.Goals as goal

pub returns-clause-wish : goal.returns-clause-wish
returns-clause-wish c = same_wish

pub returns-clause-probe : goal.returns-clause-probe
returns-clause-probe c = same_kept
