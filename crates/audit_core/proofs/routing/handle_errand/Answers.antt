use Rattle.std.proofs.Common.{None, refl, sym, subst}
use Rattle.audit_core.specs.Routing.{Decides}
use Rattle.audit_core.specs.declared.routed.Handling.TheVariants.{Refused}
use Rattle.audit_core.proofs.RoutingLemmas.{refused_so, other_so}
use Rattle.audit_core.proofs.routing.handle_errand.Goals as goal

pub returns-in-Refuse-clause-decides : goal.returns-in-Refuse-clause-decides
returns-in-Refuse-clause-decides g c =
    let R = g.R.Routes in
    let now = c.args.routes.now in
    let ends = c.args.endpoints.now in
    let code = c.in-Refuse.code in
    subst
    (λ e. Decides ends e (R.opening now) (R.seen now) (R.own now) (R.seen now) (R.own now) (record { row = None; handling = Refused code }))
    (sym c.in-Refuse.is)
    (refused_so ends (R.opening now) (R.seen now) (R.own now) (R.seen now) (R.own now) code refl refl)

pub returns-in-Other-clause-decides : goal.returns-in-Other-clause-decides
returns-in-Other-clause-decides g c =
    let R = g.R.Routes in
    let now = c.args.routes.now in
    let ends = c.args.endpoints.now in
    let handling = c.others_at.result in
    subst
    (λ e. Decides ends e (R.opening now) (R.seen now) (R.own now) (R.seen now) (R.own now) (record { row = None; handling = handling }))
    (sym c.in-Other.is)
    (other_so ends (R.opening now) (R.seen now) (R.own now) (R.seen now) (R.own now) handling refl refl c.others_at.ensures)
