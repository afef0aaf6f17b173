use Rattle.model_examples.proofs.ActingRuns.{acting_taken, user_stands, acting_stands, not_alike, other_bytes}
use Rattle.model_examples.proofs.laws.an_acting_user_shows.Goals as goal

pub returns-clause-taken : goal.returns-clause-taken
returns-clause-taken c = acting_taken

pub returns-clause-user : goal.returns-clause-user
returns-clause-user c = user_stands

pub returns-clause-acting : goal.returns-clause-acting
returns-clause-acting c = acting_stands

pub returns-clause-apart : goal.returns-clause-apart
returns-clause-apart c = not_alike

pub returns-clause-bytes : goal.returns-clause-bytes
returns-clause-bytes c = other_bytes
