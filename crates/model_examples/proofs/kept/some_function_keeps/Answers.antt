use Rattle.model_examples.proofs.KeptLemmas.{keep, keep_keeps}
use Rattle.model_examples.proofs.kept.some_function_keeps.Goals as goal

pub returns : goal.returns
returns c = (keep, keep_keeps c.one_kept.ensures.one)
