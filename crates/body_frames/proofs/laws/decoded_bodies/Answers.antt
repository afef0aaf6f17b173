use Rattle.body_frames.proofs.FirstLemmas.{decoded_done, decoded_ends, decoded_itself, decoded_whole, decoded_awaits}
use Rattle.body_frames.proofs.laws.decoded_bodies.Goals as goal

pub returns-clause-done : goal.returns-clause-done
returns-clause-done c = decoded_done

pub returns-clause-ends : goal.returns-clause-ends
returns-clause-ends c = decoded_ends

pub returns-clause-itself : goal.returns-clause-itself
returns-clause-itself c = λ frame limit text body gave decoder is itself h.
    decoded_itself frame limit text gave decoder h body is itself

pub returns-clause-whole : goal.returns-clause-whole
returns-clause-whole c = λ frame limit text body gave decoder is h.
    decoded_whole frame limit text gave decoder h body is

pub returns-clause-awaits : goal.returns-clause-awaits
returns-clause-awaits c = decoded_awaits
