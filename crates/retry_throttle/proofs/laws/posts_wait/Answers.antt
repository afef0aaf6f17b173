use Rattle.retry_throttle.proofs.ApartLemmas.{are_apart}
use Rattle.retry_throttle.proofs.laws.posts_wait.Goals as goal

pub returns : goal.returns
returns c rules lines b n s t d e end sends = are_apart rules s.text lines d.last b sends.delivery end n sends.delivers sends.clock.rises
