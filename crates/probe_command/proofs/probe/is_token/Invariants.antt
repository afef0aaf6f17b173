use Rattle.std.proofs.Common.{◌≡◌, drop}
use Rattle.probe_command.specs.Probe.{is_token}
use Rattle.probe_command.proofs.probe.is_token.Given as goal

-- the bytes that were passed can stand in a token
abbrev pub invariant-loop-byte : goal.invariant-loop-byte
invariant-loop-byte l = is_token (drop l.byte-index l.text) ≡ is_token l.text
