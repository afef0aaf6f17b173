use Rattle.std.proofs.Common.{ap, ◌∙◌}
use Rattle.audit_core.specs.Errand.{is_unknown}
use Rattle.audit_core.proofs.JudgedLemmas.{user_is, act_is}
use Rattle.audit_core.proofs.judged.caller_of.Goals as goal

pub returns-in-Ok-into_user : goal.returns-in-Ok-into_user
returns-in-Ok-into_user c =
    let set = c.args.settings.now in
    let r = c.args.request.now in
    let who = c.in_ok-who.ensures in (
      c.is_unknown-unknown.ensures ∙ ap is_unknown who,
      user_is set r c.in_ok-who.who c.in-Ok-into_user.user who c.in-Ok-into_user.ensures,
      act_is set r c.in_ok-who.who c.in-Ok.act who c.in-Ok.ensures,
    )
