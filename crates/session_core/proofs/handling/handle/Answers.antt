use Rattle.std.proofs.Common.{Bool, true, false, arith, sym, subst}
use Rattle.std.proofs.lemmas.Result.{IfOk-weaker}
use Rattle.std.specs.Prelude.{if◌then◌else◌}
use Rattle.audit_core.specs.declared.errand.Errand.{Errand}
use Rattle.audit_core.specs.declared.errand.Errand.TheVariants as errand
use Rattle.audit_core.specs.declared.routed.Routed.{Routed}
use Rattle.exchange_replies.specs.Statuses.{IsFinalErrand, IsFinalHandling}
use Rattle.session_core.proofs.handling.handle.Goals as goal

stays_final : (refused : Bool) (own : Errand) → IsFinalErrand own → IsFinalErrand (if refused then errand.Refuse 500 else own)
stays_final true own h = (omega arith, omega arith)
stays_final false own h = h

pub returns-in-Ok-clause-status : goal.returns-in-Ok-clause-status
returns-in-Ok-clause-status g c =
    let own : IsFinalErrand c.errand_after-errand.result =
    subst IsFinalErrand (sym c.errand_after-errand.ensures) (stays_final _ c.args.errand c.requires.status) in
    IfOk-weaker c.handle_errand.result _ _
    (λ (routed : Routed) d. subst (λ (r : Routed). IsFinalHandling r.handling) (sym d.routed_is)
    (c.statuses_are_final.ensures.handling _ _ _ own))
    c.handle_errand.ensures.decides
