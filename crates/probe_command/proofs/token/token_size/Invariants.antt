use Rattle.std.proofs.Common.{◌≡◌, ◌+◌, ◌≤◌, drop, length}
use Rattle.probe_command.specs.Token.{token_size}
use Rattle.probe_command.proofs.token.token_size.Given as goal

-- the bytes that were passed can stand in a token
abbrev pub invariant-loop-byte : goal.invariant-loop-byte
invariant-loop-byte l = record {
  size : token_size l.bytes ≡ l.byte-index + token_size (drop l.byte-index l.bytes);
  at : l.size ≡ l.byte-index;
  within : l.byte-index ≤ length l.bytes;
}
