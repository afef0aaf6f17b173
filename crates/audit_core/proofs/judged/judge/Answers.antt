use Rattle.audit_core.proofs.JudgedLemmas.{attributes_are, errand_is, decision_is}
use Rattle.audit_core.proofs.judged.judge.Goals as goal

pub returns-in-Ok-errand_of : goal.returns-in-Ok-errand_of
returns-in-Ok-errand_of c =
    let set = c.args.settings.now in
    let r = c.args.request.now in
    let asked = c.in_ok-asked.asked in
    let is = c.in_ok-asked.ensures in
    let caller = c.in-Ok.caller in
    let who = c.in-Ok.ensures in (
      attributes_are set r asked.info caller.user caller.act _ is.0 who.1 who.2 c.other_of.ensures,
      errand_is set r c.args.moment asked.refused caller.unknown caller.act caller.user asked.info c.in-Ok-errand_of.errand is.1 who.0 who.2 who.1 is.0 c.in-Ok-errand_of.ensures,
      decision_is set r caller.user asked.info c.decide-decision.result who.1 is.0 c.decide-decision.ensures,
    )
