use Rattle.std.proofs.Common.{◌≡◌, ◌++◌, drop, map}
use Rattle.csv.specs.Records.{fields_of}
use Rattle.warned_files.specs.Endpoints.{keys_of}
use Rattle.warned_files.proofs.endpoints.keys_of.Given as goal

-- the keys so far, and those of the rows that are left
abbrev pub invariant-loop-row : goal.invariant-loop-row
invariant-loop-row l = l.keys.items ++ keys_of (map fields_of (drop l.row-index l.rows)) ≡ keys_of (map fields_of l.rows)
