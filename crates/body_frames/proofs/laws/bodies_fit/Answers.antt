use Rattle.body_frames.proofs.FirstLemmas.{body_fits}
use Rattle.body_frames.proofs.laws.bodies_fit.Goals as goal

pub returns : goal.returns
returns c = body_fits
