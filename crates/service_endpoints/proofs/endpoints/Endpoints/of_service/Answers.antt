use Rattle.std.proofs.Common.{ap, ◌∙◌}
use Rattle.service_endpoints.specs.Find as spec
use Rattle.service_endpoints.specs.Key.{service_key}
use Rattle.service_endpoints.proofs.FindLemmas.{too_long}
use Rattle.service_endpoints.proofs.endpoints.Endpoints.of_service.Goals as goal

pub returns-in-None : goal.returns-in-None
returns-in-None c =
    too_long (service_key c.args.service.now) c.self.inside.records.items c.self.invariant.short c.in-None.ensures.none
    ∙ ap (spec.last_address (service_key c.args.service.now)) c.self.view_is
