use Rattle.body_frames.proofs.FirstLemmas.{decoded_start}
use Rattle.body_frames.proofs.decoder.Decoder.new.Goals as goal

pub returns : goal.returns
returns c = decoded_start _ _ _ c.first_place.ensures
