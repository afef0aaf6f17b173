use Rattle.std.proofs.Common.{arith, ap, Some, ◌∙◌}
use Rattle.service_endpoints.specs.Find as spec
use Rattle.service_endpoints.proofs.FindLemmas.{address_found, address_missing, place_within}
use Rattle.service_endpoints.proofs.endpoints.Endpoints.at.Goals as goal

pub index-requires : goal.index-requires
index-requires c =
    let at = c.in-Some.ensures.value ∙ c.self.invariant.found c.args.key.now in
    omega (arith, c.self.inside.records.ok, place_within c.args.key.now c.self.inside.records.items c.in-Some.place.now at)

pub returns-in-Some : goal.returns-in-Some
returns-in-Some c =
    let at = c.in-Some.ensures.value ∙ c.self.invariant.found c.args.key.now in
    ap (λ r. Some r.address) c.index.ensures
    ∙ address_found c.args.key.now c.self.inside.records.items c.in-Some.place.now c.index.result.now at
    ∙ ap (spec.last_address c.args.key.now) c.self.view_is

pub returns-in-None : goal.returns-in-None
returns-in-None c =
    address_missing c.args.key.now c.self.inside.records.items (c.in-None.ensures.value ∙ c.self.invariant.found c.args.key.now)
    ∙ ap (spec.last_address c.args.key.now) c.self.view_is
