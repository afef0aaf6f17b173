use Rattle.truncate_backend.proofs.FitLemmas.{never-stripped}
use Rattle.truncate_backend.proofs.laws.no_objects_no_strip.Goals as goal

pub returns : goal.returns
returns c = never-stripped
