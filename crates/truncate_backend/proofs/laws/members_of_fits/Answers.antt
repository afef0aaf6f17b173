use Rattle.std.proofs.Common.{◌∙◌}
use Rattle.truncate_backend.proofs.FitLemmas.{fit-stripped, members-plain, members-stripped}
use Rattle.truncate_backend.proofs.laws.members_of_fits.Goals as goal

pub returns : goal.returns
returns c =
    record {
      line = members-plain;
      stripped = λ event max line h. (fit-stripped event max line h).0 ∙ members-stripped event;
    }
