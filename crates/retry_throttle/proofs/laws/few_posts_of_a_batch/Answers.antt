use Rattle.retry_throttle.proofs.PostLemmas.{most_posts}
use Rattle.retry_throttle.proofs.laws.few_posts_of_a_batch.Goals as goal

pub returns : goal.returns
returns c rules text lines b d end n f = most_posts rules text lines b d end n f
