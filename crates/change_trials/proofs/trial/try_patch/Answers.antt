use Rattle.std.proofs.Common.{Some, sym, ap, ◌∙◌}
use Rattle.change_trials.proofs.trial.try_patch.Goals as goal

pub returns-in-Ok-clause-left : goal.returns-in-Ok-clause-left
returns-in-Ok-clause-left c =
    ap Some c.in-Ok.ensures
    ∙ sym (c.a_patch_leaves_its_object.ensures.left c.args.name.now c.args.patch.now c.args.rows.now c.in_ok-row.row c.in_ok-row.ensures.made)

pub returns-in-Ok-clause-due : goal.returns-in-Ok-clause-due
returns-in-Ok-clause-due c =
    c.a_patch_leaves_its_object.ensures.taken c.args.name.now c.args.patch.now c.args.rows.now c.in_ok-row.row c.in_ok-row.ensures.made
