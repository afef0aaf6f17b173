use Rattle.std.proofs.Common.{◌≡◌, ◌<◌, ℕ, List, Some, map, true}
use Rattle.csv.specs.Reading.{Reached, Ready, default_config, source_of, strip_bom}
use Rattle.csv.specs.Records.{fields_of}
use Rattle.csv.specs.declared.parser.State.TheVariants as st
use Rattle.csv.specs.declared.reader.Trim.TheVariants as trim
use Rattle.warned_files.proofs.endpoints.rows_of.Given as goal

abbrev pub invariant-loop-row : goal.invariant-loop-row
invariant-loop-row l =
    let rdr = l.row-iterator.rdr in
    record {
      plain : rdr.trim ≡ trim.None;
      flexible : rdr.flexible ≡ true;
      ready : Ready rdr;
      turns : 0 < l.row-iterator.left;
      config : rdr.config ≡ default_config;
      left : (y : List ℕ) × (source_of (λ s. Some s.now) rdr ≡ Some y) × Reached default_config st.StartRecord (strip_bom l.fn.bytes) (map fields_of l.rows.items) rdr.state y;
    }
