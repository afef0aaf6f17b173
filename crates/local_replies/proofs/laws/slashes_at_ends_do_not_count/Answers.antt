use Rattle.std.proofs.Common.{ap}
use Rattle.local_replies.specs.Paths.{first_of, local_of, table}
use Rattle.local_replies.proofs.laws.slashes_at_ends_do_not_count.Goals as goal

pub returns-clause-front : goal.returns-clause-front
unfolding local_of
returns-clause-front c = λ path. ap (first_of table) (c.slashes_are_trimmed.ensures.start path)

pub returns-clause-back : goal.returns-clause-back
unfolding local_of
returns-clause-back c = λ path. ap (first_of table) (c.slashes_are_trimmed.ensures.end path)
