use Rattle.truncate_backend.proofs.TryLemmas.{joined-twice}
use Rattle.truncate_backend.proofs.laws.lists_join.Goals as goal

pub returns : goal.returns
returns c = record { lines = joined-twice; tries = joined-twice }
