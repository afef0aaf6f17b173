use Rattle.alike_requests.proofs.ManagedLemmas.{managed_same}
use Rattle.alike_requests.proofs.laws.managed_fields_are_not_seen.Goals as goal

pub returns : goal.returns
returns c = managed_same c.one_value.ensures
