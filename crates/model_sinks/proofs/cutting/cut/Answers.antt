use Rattle.audit_core.specs.declared.sinks.Sink.TheVariants.{Log, Webhook}
use Rattle.model_sinks.proofs.StepLemmas.{cut_at}
use Rattle.model_sinks.proofs.cutting.cut.Goals as goal

pub returns-in-Log-clause-ok : goal.returns-in-Log-clause-ok
returns-in-Log-clause-ok c =
    rw c.in-Log.is (cut_at c.args.setup.now c.args.state.now Log c.args.works _ _ c.cut_lines.ensures.ok)

pub returns-in-Webhook-clause-ok : goal.returns-in-Webhook-clause-ok
returns-in-Webhook-clause-ok c =
    rw c.in-Webhook.is
    (cut_at c.args.setup.now c.args.state.now Webhook c.args.works _ _ c.cut_lines-in-Webhook.ensures.ok)
