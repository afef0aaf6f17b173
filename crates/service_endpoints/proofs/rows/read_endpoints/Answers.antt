use Rattle.std.proofs.Common.{length, arith, ap, sym, ◌∙◌}
use Rattle.std.proofs.lemmas.List.{length-map}
use Rattle.csv.specs.Records.{fields_of}
use Rattle.service_endpoints.proofs.FileLemmas.{few_rows}
use Rattle.service_endpoints.proofs.rows.read_endpoints.Goals as goal

pub records_of-requires : goal.records_of-requires
records_of-requires c =
    let count = sym (length-map c.in_ok-rows.rows.items fields_of) ∙ ap length c.in_ok-rows.ensures.rows in
    rw c.as_slice.ensures.value (omega (arith, count, few_rows c.args.bytes.now, c.requires))
