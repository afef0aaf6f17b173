use Rattle.std.proofs.Common.{◌≡◌, ◌≤◌, ◌+◌, ◌*◌, take}
use Rattle.truncate_backend.specs.Tries.{bytes_of}
use Rattle.webhook_sink.proofs.list.list_length.Given as goal

abbrev pub invariant-loop-line : goal.invariant-loop-line
invariant-loop-line l = record {
  size : l.size ≡ 76 + bytes_of (take l.line-index l.lines);
  bound : l.size ≤ 76 + 4194304 * l.line-index;
}
