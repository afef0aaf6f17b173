use Rattle.std.proofs.Common.{refl, subst}
use Rattle.audit_core.specs.Routing.{Decides}
use Rattle.audit_core.proofs.settling.settle.Goals as goal

pub returns-in-Ok-facts_of : goal.returns-in-Ok-facts_of
returns-in-Ok-facts_of g c =
    let judged = c.in_ok-judged.ensures in
    let old = c.args.routes.now in
    let new = c.handle_errand.new.routes in
    let facts = rw (judged.0, judged.2) at c.in-Ok-facts_of.ensures in
    record {
      settles = (
        c.in-Ok.routed,
        subst (λ errand. Decides c.args.settings.now.endpoints errand (g.R.Routes.opening old) (g.R.Routes.seen old) (g.R.Routes.own old)
            (g.R.Routes.seen new) (g.R.Routes.own new) c.in-Ok.routed) judged.1 c.in-Ok.ensures.decides,
        record { handling_is = refl; decision_is = judged.2; facts_are = facts },
      );
      later = c.handle_errand.ensures.later;
      fixed = c.handle_errand.ensures.fixed;
    }
