use Rattle.truncate_backend.proofs.TryLemmas.{lines-append, done-append, done-fewer, faults-append, refusals-append, unwritten-cause}
use Rattle.truncate_backend.proofs.laws.tries_join.Goals as goal

pub returns : goal.returns
returns c = record {
  lines = lines-append;
  done = done-append;
  fewer = done-fewer;
  faults = faults-append;
  refusals = refusals-append;
  cause = unwritten-cause;
}
