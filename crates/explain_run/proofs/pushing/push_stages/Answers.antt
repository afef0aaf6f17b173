use Rattle.std.proofs.Common.{◌≡◌}
use Rattle.explain_run.proofs.PushingLemmas.{pushed_in_turn}
use Rattle.explain_run.proofs.pushing.push_stages.Goals as goal

pub returns-clause-ok : goal.returns-clause-ok
returns-clause-ok c =
    pushed_in_turn c.args.form.most c.args.form.end c.args.answered.now c.push_stage.new.answered c.push_stage-2.new.answered
    c.args.lines.now.items c.push_stage.new.lines.items c.push_stage-2.new.lines.items c.push_stage-3.new.lines.items
    c.in_ok-received.received c.in_ok-started.started c.in_ok-complete.complete
    c.push_stage.ensures.same c.push_stage-2.ensures.same
    c.in_ok-received.ensures.ok c.in_ok-started.ensures.ok c.in_ok-complete.ensures.ok
