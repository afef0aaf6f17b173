use Rattle.std.proofs.lemmas.Result.{on_ok_weaker}
use Rattle.audit_core.proofs.OwedLemmas.{all_stages}
use Rattle.audit_core.proofs.owed.push_stages.Goals as goal

pub returns-clause-ok : goal.returns-clause-ok
returns-clause-ok c =
    on_ok_weaker
    c.push_stage-2.result
    (all_stages c.args.form.most c.args.form.end c.args.level c.args.answered.now.decision.omit c.args.answered.now.facts c.args.out.now.items c.push_stage.new.out.items
    c.push_started.new.out.items c.push_stage-2.new.out.items c.in_ok-push_stage.ensures.ok c.in_ok-push_started.ensures.ok)
    c.push_stage-2.ensures.ok
