use Rattle.connection_laws.specs.Whole.{is_full, is_failure}
use Rattle.connection_laws.proofs.CountLemmas.{count_all, adds_full, adds_failed, large_is_not_full, large_is_no_failure}
use Rattle.truncate_backend.specs.Lanes.{LaneTells}
use Rattle.connection_laws.proofs.laws.refusals_are_counted.Goals as goal

pub returns-clause-full : goal.returns-clause-full
returns-clause-full c = count_all (λ (t : LaneTells). t.fulls) is_full adds_full large_is_not_full

pub returns-clause-failed : goal.returns-clause-failed
returns-clause-failed c = count_all (λ (t : LaneTells). t.faults) is_failure adds_failed large_is_no_failure
