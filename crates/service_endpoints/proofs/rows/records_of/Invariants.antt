use Rattle.std.proofs.Common.{◌≡◌, drop, map}
use Rattle.csv.specs.Records.{fields_of}
use Rattle.service_endpoints.specs.File.{records_from}
use Rattle.service_endpoints.specs.Find.{AreShort}
use Rattle.service_endpoints.proofs.FileLemmas.{with_records}
use Rattle.service_endpoints.proofs.rows.records_of.Given as goal

abbrev pub invariant-loop-i : goal.invariant-loop-i
invariant-loop-i l = record {
  value : with_records l.records.items (records_from l.i (map fields_of (drop l.i l.rows))) ≡ records_from 0 (map fields_of l.rows);
  short : AreShort l.records.items;
}
