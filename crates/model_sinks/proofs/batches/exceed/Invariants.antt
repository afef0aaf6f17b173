use Rattle.std.proofs.Common.{◌≡◌, ◌+◌, drop}
use Rattle.model_sinks.proofs.batches.exceed.Given as goal
use Rattle.truncate_backend.specs.Tries.{bytes_of}

-- what is left of the limit, and the lines that are left
abbrev pub invariant-loop-line : goal.invariant-loop-line
invariant-loop-line l = l.bytes + bytes_of (drop l.line-index l.lines) ≡ l.left + bytes_of l.lines
