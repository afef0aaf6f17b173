use Rattle.retry_throttle.proofs.GiveLemmas.{few_posts}
use Rattle.retry_throttle.proofs.laws.few_posts_between.Goals as goal

pub returns : goal.returns
returns c rules text rate burst first batches ds n a b s = few_posts rules text rate burst first batches ds n a b s
