use Rattle.truncate_backend.proofs.TryLemmas.{bytes-append}
use Rattle.truncate_backend.proofs.laws.bytes_join.Goals as goal

pub returns : goal.returns
returns c = bytes-append
