use Rattle.model_examples.proofs.KeptLemmas.{kept_of}
use Rattle.model_examples.proofs.ValueLemmas.{is_text}
use Rattle.model_examples.proofs.kept.every_body_is_kept.Goals as goal

pub returns-clause-texts : goal.returns-clause-texts
returns-clause-texts c = is_text

pub returns-clause-bodies : goal.returns-clause-bodies
returns-clause-bodies c = kept_of
