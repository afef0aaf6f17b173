use Rattle.request_info.proofs.PathLemmas.{parts_are}
use Rattle.request_info.proofs.laws.slashes_part_paths.Goals as goal

pub returns : goal.returns
returns c = parts_are
