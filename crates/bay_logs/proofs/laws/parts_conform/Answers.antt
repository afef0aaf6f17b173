use Rattle.bay_logs.proofs.KeptLemmas.{written_part}
use Rattle.bay_logs.proofs.PartLemmas.{part_conforms}
use Rattle.bay_logs.proofs.laws.parts_conform.Goals as goal
use Rattle.bay_logs.specs.Woven.{texts}
use Rattle.truncate_backend.specs.Tries.{done_of, lines_of}

pub returns : goal.returns
returns c =
    record {
      some = λ policy lines part h k. part_conforms policy part lines h k;
      written = λ policy tries h. part_conforms policy (texts (done_of tries)) (texts (lines_of tries)) h (written_part tries);
    }
