use Rattle.std.proofs.Common.{ap}
use Rattle.front_base.specs.Ends.{without_end}
use Rattle.front_base.proofs.EndsLemmas.{front_slash, trimmed_end}
use Rattle.front_base.proofs.ends.slashes_are_trimmed.Goals as goal

pub returns-clause-start : goal.returns-clause-start
returns-clause-start c = λ path. ap without_end (front_slash path)

pub returns-clause-end : goal.returns-clause-end
returns-clause-end c = λ path. trimmed_end path
