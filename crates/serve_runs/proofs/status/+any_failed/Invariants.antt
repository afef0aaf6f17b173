use Rattle.std.proofs.Common.{length}
use Rattle.serve_runs.proofs.status.+any_failed.Given as goal

abbrev pub decreases-any_failed : goal.decreases-any_failed
decreases-any_failed g a = length a.bays.now
