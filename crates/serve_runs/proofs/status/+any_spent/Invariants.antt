use Rattle.std.proofs.Common.{length}
use Rattle.serve_runs.proofs.status.+any_spent.Given as goal

abbrev pub decreases-any_spent : goal.decreases-any_spent
decreases-any_spent g a = length a.bays.now
