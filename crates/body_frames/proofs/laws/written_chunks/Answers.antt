use Rattle.body_frames.proofs.WrittenLemmas.{written}
use Rattle.body_frames.proofs.laws.written_chunks.Goals as goal

pub returns : goal.returns
returns c = written
