use Rattle.std.proofs.Common.{◌≡◌, drop, map}
use Rattle.csv.specs.Records.{fields_of}
use Rattle.token_users.specs.File.{records_from}
use Rattle.token_users.proofs.FileLemmas.{with_records}
use Rattle.token_users.proofs.rows.records_of.Given as goal

abbrev pub invariant-loop-i : goal.invariant-loop-i
invariant-loop-i l = with_records l.records.items (records_from l.i (map fields_of (drop l.i l.rows))) ≡ records_from 0 (map fields_of l.rows)
