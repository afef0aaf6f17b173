use Rattle.std.proofs.Common.{refl}
use Rattle.service_endpoints.specs.Find.{last_place}
use Rattle.service_endpoints.proofs.endpoints.Endpoints.none.Goals as goal

pub invariant_of-result : goal.invariant_of-result
unfolding last_place
invariant_of-result c = rw c.new.ensures.items (record { found = λ q. rw c.new-2.ensures.empty refl; short = tt })
