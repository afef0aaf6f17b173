use Rattle.std.proofs.Common.{append-nil}
use Rattle.truncate_backend.proofs.TryLemmas.{one-lines, one-lost}
use Rattle.truncate_backend.proofs.laws.one_try.Goals as goal

pub returns : goal.returns
returns c = record { lines = one-lines; done = λ lines sent. append-nil lines; lost = one-lost }
