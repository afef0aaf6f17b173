use Rattle.std.proofs.Common.{◌≡◌, drop}
use Rattle.apiservice_rows.specs.Object.{are_name_bytes}
use Rattle.service_endpoints.proofs.names.are_name_bytes.Given as goal

-- all that was passed may stand there
abbrev pub invariant-loop-byte : goal.invariant-loop-byte
invariant-loop-byte l = are_name_bytes (drop l.byte-index l.text) ≡ are_name_bytes l.text
