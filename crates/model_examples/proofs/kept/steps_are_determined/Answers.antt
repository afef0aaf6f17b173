use Rattle.model_examples.proofs.DeterminedLemmas.{one_step, one_run}
use Rattle.model_examples.proofs.KeptLemmas.{keep, keep_keeps}
use Rattle.model_examples.proofs.kept.steps_are_determined.Goals as goal

pub returns-clause-step : goal.returns-clause-step
returns-clause-step c own s t u taken answer other h k = one_step keep (keep_keeps c.one_kept.ensures.one) own s t u taken answer other h k

pub returns-clause-run : goal.returns-clause-run
returns-clause-run c own s t u steps answers others h k = one_run keep (keep_keeps c.one_kept.ensures.one) own s t u steps answers others h k
