use Rattle.apiservice_table.proofs.StoryLemmas.{after_push}
use Rattle.apiservice_table.proofs.laws.the_last_change_counts.Goals as goal

pub returns : goal.returns
returns c = λ rows changes change. after_push rows changes change
