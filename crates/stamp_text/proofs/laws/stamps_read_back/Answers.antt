use Rattle.stamp_text.proofs.IdLemmas.{id_again, id_valid}
use Rattle.stamp_text.proofs.MomentLemmas.{moment_again}
use Rattle.stamp_text.proofs.laws.stamps_read_back.Goals as goal

pub returns : goal.returns
returns c = record { id = λ id boot bay number. id_again id (boot, bay, number); utf8 = id_valid; moment = moment_again }
