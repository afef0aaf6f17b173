use Rattle.shared_routes.proofs.CountLemmas.{are_made}
use Rattle.shared_routes.proofs.laws.counted_changes_are_made.Goals as goal

pub returns : goal.returns
returns c = are_made
