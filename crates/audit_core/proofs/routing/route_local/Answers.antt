use Rattle.audit_core.proofs.RoutingLemmas.{served_so}
use Rattle.audit_core.proofs.routing.route_local.Goals as goal

pub returns-in-Ok-clause-decides : goal.returns-in-Ok-clause-decides
returns-in-Ok-clause-decides g c ends =
    let R = g.R.Routes in
    let old = c.args.routes.now in
    let new = c.serve_errand.new.routes in
    served_so
    ends (R.opening old) (R.seen old) (R.own old) (R.seen new) (R.own new) c.the_last_change_counts.ensures c.args.local
    c.serve_errand.ensures.later c.args.own
    c.in-Ok.reply c.in-Ok.change c.in-Ok.ensures.served
