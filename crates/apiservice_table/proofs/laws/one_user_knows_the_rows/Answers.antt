use Rattle.apiservice_table.proofs.StoryLemmas.{rows_stand, rows_take}
use Rattle.apiservice_table.proofs.laws.one_user_knows_the_rows.Goals as goal

pub returns-clause-same : goal.returns-clause-same
returns-clause-same c = λ old new later fixed own. rows_stand old new later fixed own

pub returns-clause-more : goal.returns-clause-more
returns-clause-more c = λ old new change fixed took. rows_take old new change fixed took
