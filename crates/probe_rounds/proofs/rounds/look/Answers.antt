use Rattle.std.proofs.Common.{sym, ◌∙◌}
use Rattle.probe_rounds.proofs.TurnLemmas.{after_begins, after_stays, look_breaks, look_goes, look_stays}
use Rattle.probe_rounds.proofs.rounds.look.Goals as goal

pub returns-then-not-is_due-clause-ok : goal.returns-then-not-is_due-clause-ok
returns-then-not-is_due-clause-ok g c =
    look_stays c.args.plan.now c.args.rows.now c.args.pace.now c.args.now _ (sym c.is_due.ensures ∙ c.if-not-is_due.true)

pub returns-then-not-is_due-clause-pace : goal.returns-then-not-is_due-clause-pace
returns-then-not-is_due-clause-pace g c =
    after_stays c.args.plan.now c.args.rows.now c.args.pace.now c.args.now (sym c.is_due.ensures ∙ c.if-not-is_due.true)

pub returns-in-Ok-clause-ok : goal.returns-in-Ok-clause-ok
returns-in-Ok-clause-ok g c =
    look_goes c.args.plan.now c.args.rows.now c.args.pace.now c.args.now _ _ (sym c.is_due.ensures ∙ c.if-not-is_due.false) c.in-Ok.ensures.ok

pub returns-in-Ok-clause-pace : goal.returns-in-Ok-clause-pace
returns-in-Ok-clause-pace g c =
    after_begins c.args.plan.now c.args.rows.now c.args.pace.now c.args.now (sym c.is_due.ensures ∙ c.if-not-is_due.false)

pub returns-in-Err-clause-err : goal.returns-in-Err-clause-err
returns-in-Err-clause-err g c =
    look_breaks c.args.plan.now c.args.rows.now c.args.pace.now c.args.now _ c.in-Err.stop _ _ (sym c.is_due.ensures ∙ c.if-not-is_due.false)
    c.in-Err.ensures.err
