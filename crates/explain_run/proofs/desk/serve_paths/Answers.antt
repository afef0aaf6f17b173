use Rattle.std.proofs.Common.{refl}
use Rattle.explain_run.proofs.ServingLemmas.{none_served}
use Rattle.explain_run.proofs.desk.serve_paths.Goals as goal

pub returns-in-Err-clause-run : goal.returns-in-Err-clause-run
returns-in-Err-clause-run g c = none_served _ _ _ _ _ c.requires refl refl
