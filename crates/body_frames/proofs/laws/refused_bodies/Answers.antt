use Rattle.body_frames.proofs.FirstLemmas.{decoded_broken, decoded_refused}
use Rattle.body_frames.proofs.laws.refused_bodies.Goals as goal

pub returns-clause-only : goal.returns-clause-only
returns-clause-only c = λ frame limit text body decoder fault h e.
    decoded_broken frame limit text body decoder h fault e

pub returns-clause-each : goal.returns-clause-each
returns-clause-each c = λ frame limit text body decoder fault h k.
    decoded_refused frame limit text body decoder h fault k
