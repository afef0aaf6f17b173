use Rattle.audit_core.specs.declared.sinks.Sink.TheVariants.{Log, Webhook}
use Rattle.model_sinks.proofs.StepLemmas.{take_at}
use Rattle.model_sinks.proofs.taking.take.Goals as goal

pub returns-in-Log-clause-ok : goal.returns-in-Log-clause-ok
returns-in-Log-clause-ok c =
    let h = rw c.in-Log.is at c.take_line.ensures.ok in
    rw c.in-Log.is (take_at c.args.setup.now c.args.state.now Log _ _ h)

pub returns-in-Webhook-clause-ok : goal.returns-in-Webhook-clause-ok
returns-in-Webhook-clause-ok c =
    let h = rw c.in-Webhook.is at c.take_line-in-Webhook.ensures.ok in
    rw c.in-Webhook.is (take_at c.args.setup.now c.args.state.now Webhook _ _ h)
